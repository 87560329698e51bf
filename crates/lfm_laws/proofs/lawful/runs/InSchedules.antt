-- The main laws in every state that a schedule reaches: such a state is steady, and each law holds for every steady state.
use Rattle.lfm_laws.specs.laws.InSchedules.{
  OneSeatOwnsInSchedules,
  OneHasTheResponsibilityInSchedules,
  PlacesAreReadInSchedules,
  CountIsZeroIfFreeInSchedules,
  StatesAreLawfulInSchedules,
  EventsAreTheirCasesInSchedules,
  QueueIsInPushOrderInSchedules,
  StampsAreConsecutiveInSchedules,
  QueuedSeatsAreOvertakenOnceInSchedules,
  QueuedSeatsWaitForFewReleasesInSchedules,
  NoSeatOvertakesTwiceInSchedules,
  QueuedSeatsAreServedSoonInSchedules,
  StepsServeInSchedules,
  SomebodyCanServeInSchedules,
  HandoffsAreWatchedInSchedules,
  QuiescentStatesRestInSchedules,
  SleepersAreReachableInSchedules,
  TakesFindARecordInSchedules,
  WonPostsHaveARecordInSchedules,
  FailedPushesSeeChangeInSchedules,
  CallsPostOnceInSchedules,
  CallsGrantOnceInSchedules,
  CallsTakeEffectOnceInSchedules,
  EffectsAreOfCallsInSchedules,
  EffectsAreTheCallersInSchedules,
  UnlocksAreBoundedInSchedules,
  StartWaitsAreBoundedInSchedules,
  TriesAndReceivesAreBoundedInSchedules,
  CallsEndAloneInSchedules,
  PushesAloneFailOnceInSchedules,
  TriesAloneHoldInSchedules,
  CallsEndBesideOthersInSchedules,
  CallsChangeThePushWordTwiceInSchedules,
  CallsShareTheirStepsInSchedules,
  SomeCallEndsInSchedules,
  NoStateIsStuckInSchedules,
  BusyWasBusyInSchedules,
  ClaimedSeatsAreQueuedInSchedules,
}
use Rattle.lfm_laws.proofs.lawful.bounds.Beside.{calls_end_beside_others, calls_change_the_push_word_twice}
use Rattle.lfm_laws.proofs.lawful.bounds.CallsEnd.{calls_end_alone}
use Rattle.lfm_laws.proofs.lawful.bounds.ConstantBounds.{tries_are_bounded, receives_are_bounded}
use Rattle.lfm_laws.proofs.lawful.bounds.GrantsOnce.{calls_grant_once}
use Rattle.lfm_laws.proofs.lawful.bounds.LockFree.{calls_share_their_steps, some_call_ends}
use Rattle.lfm_laws.proofs.lawful.bounds.Overtaken.{queued_seats_are_overtaken_once, queued_seats_wait_for_few_releases}
use Rattle.lfm_laws.proofs.lawful.bounds.Overtakers.{no_seat_overtakes_twice}
use Rattle.lfm_laws.proofs.lawful.bounds.PostsOnce.{calls_post_once}
use Rattle.lfm_laws.proofs.lawful.bounds.PushesAlone.{pushes_alone_fail_once}
use Rattle.lfm_laws.proofs.lawful.bounds.ReleaseBounds.{unlocks_are_bounded, start_waits_are_bounded}
use Rattle.lfm_laws.proofs.lawful.bounds.Resting.{no_state_is_stuck}
use Rattle.lfm_laws.proofs.lawful.bounds.CanServe.{somebody_can_serve}
use Rattle.lfm_laws.proofs.lawful.bounds.Served.{queued_seats_are_served_soon, steps_serve}
use Rattle.lfm_laws.proofs.lawful.bounds.TriesAlone.{tries_alone_hold}
use Rattle.lfm_laws.proofs.lawful.calls.ClaimedSeats.{claimed_seats_are_queued}
use Rattle.lfm_laws.proofs.lawful.refusals.BusyMoments.{busy_was_busy}
use Rattle.lfm_laws.proofs.lawful.calls.EffectsOnce.{calls_take_effect_once}
use Rattle.lfm_laws.proofs.lawful.calls.EffectsOwned.{effects_are_of_calls, effects_are_the_callers}
use Rattle.lfm_laws.proofs.lawful.runs.AbstractBridge.{events_are_their_cases}
use Rattle.lfm_laws.proofs.lawful.runs.PushOrder.{queue_is_in_push_order, stamps_are_consecutive}
use Rattle.lfm_laws.proofs.lawful.states.CountLaws.{places_are_read, count_is_zero_if_free}
use Rattle.lfm_laws.proofs.lawful.states.Owning.{one_seat_owns, one_has_the_responsibility}
use Rattle.lfm_laws.proofs.lawful.states.Sleepers.{sleepers_are_reachable}
use Rattle.lfm_laws.proofs.lawful.states.StateLaws.{states_are_lawful, handoffs_are_watched, quiescent_states_rest, takes_find_a_record, failed_pushes_see_change}
use Rattle.lfm_laws.proofs.lawful.states.WonPosts.{won_posts_have_a_record}
use Rattle.lfm_laws.proofs.lawful.runs.KeptSteady.{states_are_steady}

-- Mutual exclusion

pub one_seat_owns_in_schedules : OneSeatOwnsInSchedules
one_seat_owns_in_schedules c s t is = one_seat_owns c s t (states_are_steady c is)

pub one_has_the_responsibility_in_schedules : OneHasTheResponsibilityInSchedules
one_has_the_responsibility_in_schedules c is = one_has_the_responsibility c (states_are_steady c is)

pub places_are_read_in_schedules : PlacesAreReadInSchedules
places_are_read_in_schedules c a is = places_are_read c a (states_are_steady c is)

pub count_is_zero_if_free_in_schedules : CountIsZeroIfFreeInSchedules
count_is_zero_if_free_in_schedules c a is = count_is_zero_if_free c a (states_are_steady c is)

-- The abstract mutex

pub states_are_lawful_in_schedules : StatesAreLawfulInSchedules
states_are_lawful_in_schedules c is = states_are_lawful c (states_are_steady c is)

pub events_are_their_cases_in_schedules : EventsAreTheirCasesInSchedules
events_are_their_cases_in_schedules c e a b is = events_are_their_cases c e a b (states_are_steady c is)

-- The order of the queue

pub queue_is_in_push_order_in_schedules : QueueIsInPushOrderInSchedules
queue_is_in_push_order_in_schedules c events is = queue_is_in_push_order c events (states_are_steady c is)

pub stamps_are_consecutive_in_schedules : StampsAreConsecutiveInSchedules
stamps_are_consecutive_in_schedules c events is = stamps_are_consecutive c events (states_are_steady c is)

pub queued_seats_are_overtaken_once_in_schedules : QueuedSeatsAreOvertakenOnceInSchedules
queued_seats_are_overtaken_once_in_schedules c events k is = queued_seats_are_overtaken_once c events k (states_are_steady c is)

pub queued_seats_wait_for_few_releases_in_schedules : QueuedSeatsWaitForFewReleasesInSchedules
queued_seats_wait_for_few_releases_in_schedules c events k is = queued_seats_wait_for_few_releases c events k (states_are_steady c is)

pub no_seat_overtakes_twice_in_schedules : NoSeatOvertakesTwiceInSchedules
no_seat_overtakes_twice_in_schedules c t events k is = no_seat_overtakes_twice c t events k (states_are_steady c is)

pub queued_seats_are_served_soon_in_schedules : QueuedSeatsAreServedSoonInSchedules
queued_seats_are_served_soon_in_schedules c events k is = queued_seats_are_served_soon c events k (states_are_steady c is)

pub steps_serve_in_schedules : StepsServeInSchedules
steps_serve_in_schedules c events k is = steps_serve c events k (states_are_steady c is)

pub somebody_can_serve_in_schedules : SomebodyCanServeInSchedules
somebody_can_serve_in_schedules c is = somebody_can_serve c (states_are_steady c is)

-- No lost hand-off

pub handoffs_are_watched_in_schedules : HandoffsAreWatchedInSchedules
handoffs_are_watched_in_schedules c is = handoffs_are_watched c (states_are_steady c is)

pub quiescent_states_rest_in_schedules : QuiescentStatesRestInSchedules
quiescent_states_rest_in_schedules c is = quiescent_states_rest c (states_are_steady c is)

pub sleepers_are_reachable_in_schedules : SleepersAreReachableInSchedules
sleepers_are_reachable_in_schedules c t since is = sleepers_are_reachable c t since (states_are_steady c is)

pub takes_find_a_record_in_schedules : TakesFindARecordInSchedules
takes_find_a_record_in_schedules c s carrier is = takes_find_a_record c s carrier (states_are_steady c is)

pub won_posts_have_a_record_in_schedules : WonPostsHaveARecordInSchedules
won_posts_have_a_record_in_schedules c s is = won_posts_have_a_record c s (states_are_steady c is)

pub failed_pushes_see_change_in_schedules : FailedPushesSeeChangeInSchedules
failed_pushes_see_change_in_schedules c s pusher seen is = failed_pushes_see_change c s pusher seen (states_are_steady c is)

pub calls_post_once_in_schedules : CallsPostOnceInSchedules
calls_post_once_in_schedules c s events is = calls_post_once c s events (states_are_steady c is)

pub calls_grant_once_in_schedules : CallsGrantOnceInSchedules
calls_grant_once_in_schedules c s events is = calls_grant_once c s events (states_are_steady c is)

-- Linearization points

pub calls_take_effect_once_in_schedules : CallsTakeEffectOnceInSchedules
calls_take_effect_once_in_schedules c s call events is = calls_take_effect_once c s call events (states_are_steady c is)

pub effects_are_of_calls_in_schedules : EffectsAreOfCallsInSchedules
effects_are_of_calls_in_schedules c s e is = effects_are_of_calls c s e (states_are_steady c is)

pub effects_are_the_callers_in_schedules : EffectsAreTheCallersInSchedules
effects_are_the_callers_in_schedules c s call events a b is = effects_are_the_callers c s call events a b (states_are_steady c is)

-- Bounds

pub unlocks_are_bounded_in_schedules : UnlocksAreBoundedInSchedules
unlocks_are_bounded_in_schedules c s events is = unlocks_are_bounded c s events (states_are_steady c is)

pub start_waits_are_bounded_in_schedules : StartWaitsAreBoundedInSchedules
start_waits_are_bounded_in_schedules c s events is = start_waits_are_bounded c s events (states_are_steady c is)

pub tries_and_receives_are_bounded_in_schedules : TriesAndReceivesAreBoundedInSchedules
tries_and_receives_are_bounded_in_schedules c s events is closed =
    let steady = states_are_steady c is in (tries_are_bounded c s events steady closed, receives_are_bounded c s events steady closed)

pub calls_end_alone_in_schedules : CallsEndAloneInSchedules
calls_end_alone_in_schedules c s is = calls_end_alone c s (states_are_steady c is)

pub pushes_alone_fail_once_in_schedules : PushesAloneFailOnceInSchedules
pushes_alone_fail_once_in_schedules c s pusher seen is = pushes_alone_fail_once c s pusher seen (states_are_steady c is)

pub tries_alone_hold_in_schedules : TriesAloneHoldInSchedules
tries_alone_hold_in_schedules c s is = tries_alone_hold c s (states_are_steady c is)

-- Lock freedom

pub calls_end_beside_others_in_schedules : CallsEndBesideOthersInSchedules
calls_end_beside_others_in_schedules c s events is = calls_end_beside_others c s events (states_are_steady c is)

pub calls_change_the_push_word_twice_in_schedules : CallsChangeThePushWordTwiceInSchedules
calls_change_the_push_word_twice_in_schedules c s events is = calls_change_the_push_word_twice c s events (states_are_steady c is)

pub calls_share_their_steps_in_schedules : CallsShareTheirStepsInSchedules
calls_share_their_steps_in_schedules c events is = calls_share_their_steps c events (states_are_steady c is)

pub some_call_ends_in_schedules : SomeCallEndsInSchedules
some_call_ends_in_schedules c events is = some_call_ends c events (states_are_steady c is)

pub no_state_is_stuck_in_schedules : NoStateIsStuckInSchedules
no_state_is_stuck_in_schedules c is = no_state_is_stuck c (states_are_steady c is)

-- Refusals

pub busy_was_busy_in_schedules : BusyWasBusyInSchedules
busy_was_busy_in_schedules c s events is = busy_was_busy c s events (states_are_steady c is)

-- Sends

pub claimed_seats_are_queued_in_schedules : ClaimedSeatsAreQueuedInSchedules
claimed_seats_are_queued_in_schedules c s t events answer is = claimed_seats_are_queued c s t events answer (states_are_steady c is)
