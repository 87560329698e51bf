-- The main laws, stated for schedules: for every state that some schedule reaches, and for all calls and single steps from
-- there. They are the laws of steady states with this premise instead of the invariant.
use Rattle.std.specs.Prelude.{◌≡◌, ◌⊎◌, ℕ, true, false, ◌+◌, ◌*◌, ◌<◌, ◌≤◌, ◌++◌, Some, List, [], ◌∷◌, length, slice_index_or}
use Rattle.lfm_model.specs.Abstract.{AbstractMutex, AbstractPlace, AbstractStep, free}
use Rattle.lfm_model.specs.AbstractRuns.{take, case_of}
use Rattle.lfm_model.specs.declared.answers.How.TheVariants as How
use Rattle.lfm_model.specs.declared.answers.Locked.TheVariants as Locked
use Rattle.lfm_model.specs.declared.refusals.Refusal.TheVariants.{Busy}
use Rattle.lfm_protocol.specs.declared.answers.Answer.{Answer}
use Rattle.lfm_protocol.specs.declared.answers.Call.{Call}
use Rattle.lfm_protocol.specs.declared.answers.Call.TheVariants.{Unlock, StartWait, TryLock, Receive}
use Rattle.lfm_protocol.specs.declared.answers.Turn.TheVariants.{Open, Ended, Refused}
use Rattle.lfm_protocol.specs.declared.answers.Why.TheVariants.{By}
use Rattle.lfm_protocol.specs.declared.points.Carrier.{Carrier}
use Rattle.lfm_protocol.specs.declared.points.Point.TheVariants.{Rest, Asleep, PushExchange, PushedHandoffLoad, TakeClearHead}
use Rattle.lfm_protocol.specs.declared.points.Pusher.{Pusher}
use Rattle.lfm_protocol.specs.declared.points.Sleeper.{Sleeper}
use Rattle.lfm_words.specs.declared.links.Link.{Link}
use Rattle.lfm_words.specs.declared.pop_lists.Record.{Record}
use Rattle.lfm_words.specs.declared.wakes.Wake.TheVariants.{Waiting, Grant}
use Rattle.lfm_protocol.specs.After.{same_link}
use Rattle.lfm_protocol.specs.Core.{Core}
use Rattle.lfm_protocol.specs.Place.{place_of}
use Rattle.lfm_protocol.specs.Queue.{queue_of}
use Rattle.lfm_protocol.specs.Seats.{seat, wake, unposted, IsSeat}
use Rattle.lfm_protocol.specs.Step.{begin, step}
use Rattle.lfm_protocol.specs.Turns.{is_open, longest_call}
use Rattle.lfm_laws.specs.laws.BusyMoments.{WasBusy}
use Rattle.lfm_laws.specs.laws.Cases.{GoesBy, case_of_event}
use Rattle.lfm_laws.specs.laws.ClaimedSeats.{IsToCount, HasQueued}
use Rattle.lfm_laws.specs.laws.Effects.{effects_of_case, effects_of, effects_in, TurnsEffects, IsEffectOf, IsOfOpenCall, IsOfEndedCall}
use Rattle.lfm_laws.specs.laws.Events.{case_of_step}
use Rattle.lfm_laws.specs.laws.Grants.{grant_weight}
use Rattle.lfm_laws.specs.laws.Lawful.{IsSent, Lawful}
use Rattle.lfm_laws.specs.laws.Laws.{IsReached, IsQuiet, IsHeld, IsGranted, has_won, post_weight, printed}
use Rattle.lfm_laws.specs.laws.Overtaking.{entries_of_run, releases_of_run, entries_of_seat}
use Rattle.lfm_laws.specs.laws.Progress.{changes_beside, changes_of_call, open_calls, steps_of_run, opened_in_run, ended_in_run, ComesToRest}
use Rattle.lfm_laws.specs.laws.Reading.{Claims, Reads}
use Rattle.lfm_laws.specs.laws.Releases.{StaysInCall}
use Rattle.lfm_laws.specs.laws.Schedules.{Event, begins, makes, happens, run_of, steps, push_record, popped_record, is_call, weight_of_call, steps_of_call}
use Rattle.lfm_laws.specs.laws.Service.{OnlyServes, CanServe}
use Rattle.lfm_laws.specs.laws.Watched.{IsQueued, Watched}

-- Mutual exclusion

-- at most one seat owns
abbrev pub OneSeatOwnsInSchedules : Type 0
OneSeatOwnsInSchedules =
    (c : Core) (s t : ℕ) → IsReached c → 0 < (seat c.seats s).depth → 0 < (seat c.seats t).depth → s ≡ t

-- if the count is above 0, exactly one owner, grant, posted handoff or call has the responsibility
abbrev pub OneHasTheResponsibilityInSchedules : Type 0
OneHasTheResponsibilityInSchedules =
    (c : Core) → IsReached c → 0 < c.count → (p : AbstractPlace) × Claims c p × ((q : AbstractPlace) → Claims c q → q ≡ p)

-- the printed place is that of the reading
abbrev pub PlacesAreReadInSchedules : Type 0
PlacesAreReadInSchedules = (c : Core) (a : AbstractMutex) → IsReached c → Reads c a → place_of c ≡ printed a.place

-- the count is 0 exactly if the place is free: no owner, grant, posted handoff or call has the responsibility
abbrev pub CountIsZeroIfFreeInSchedules : Type 0
CountIsZeroIfFreeInSchedules =
    (c : Core) (a : AbstractMutex) → IsReached c → Reads c a → (c.count ≡ 0 → a.place ≡ free) × (a.place ≡ free → c.count ≡ 0)

-- The abstract mutex

abbrev pub StatesAreLawfulInSchedules : Type 0
StatesAreLawfulInSchedules = (c : Core) → IsReached c → Lawful c

-- the reading after an event follows from the one before by its case
abbrev pub EventsAreTheirCasesInSchedules : Type 0
EventsAreTheirCasesInSchedules =
    (c : Core) (e : Event) (a b : AbstractMutex) → IsReached c → Reads c a → Reads (happens c e).core b → GoesBy (case_of_event c e) a b

-- The order of the queue

-- the queue before and then the pushed records equal the records that left and then the queue after, in the same order
abbrev pub QueueIsInPushOrderInSchedules : Type 0
QueueIsInPushOrderInSchedules =
    (c : Core) (events : List Event) → IsReached c
    → queue_of c ++ push_record c events ≡ popped_record c events ++ queue_of (run_of c events)

-- the stamps of the pushes are consecutive, starting after that of the push word
abbrev pub StampsAreConsecutiveInSchedules : Type 0
StampsAreConsecutiveInSchedules =
    (c : Core) (events : List Event) → IsReached c
    → (k : ℕ) (d : Record) → k < length (push_record c events) → (slice_index_or (push_record c events) k d).stamp ≡ c.push.stamp + (k + 1)

-- while a queued record has not left the queue, seats become the owner at most once more than records leave it
abbrev pub QueuedSeatsAreOvertakenOnceInSchedules : Type 0
QueuedSeatsAreOvertakenOnceInSchedules =
    (c : Core) (events : List Event) (k : ℕ) → IsReached c → k < length (queue_of c) → length (popped_record c events) ≤ k
    → entries_of_run c events ≤ length (popped_record c events) + 1

-- while a queued record has not left the queue, owners release at most once more than records leave it
abbrev pub QueuedSeatsWaitForFewReleasesInSchedules : Type 0
QueuedSeatsWaitForFewReleasesInSchedules =
    (c : Core) (events : List Event) (k : ℕ) → IsReached c → k < length (queue_of c) → length (popped_record c events) ≤ k
    → releases_of_run c events ≤ length (popped_record c events) + 1

-- while a queued record has not left the queue, no seat becomes the owner twice
abbrev pub NoSeatOvertakesTwiceInSchedules : Type 0
NoSeatOvertakesTwiceInSchedules =
    (c : Core) (t : ℕ) (events : List Event) (k : ℕ) → IsReached c → k < length (queue_of c) → length (popped_record c events) ≤ k
    → entries_of_seat c t events ≤ 1

-- if only calls that serve begin, calls make at most this many steps while a queued record with k before it has not left
abbrev pub QueuedSeatsAreServedSoonInSchedules : Type 0
QueuedSeatsAreServedSoonInSchedules =
    (c : Core) (events : List Event) (k : ℕ) → IsReached c → k < length (queue_of c) → OnlyServes c events
    → length (popped_record c events) ≤ k → steps_of_run c events ≤ (5 * length c.seats + 5) * (open_calls c + 2 * k + 2)

-- so once calls have made more steps than that, the record has left the queue
abbrev pub StepsServeInSchedules : Type 0
StepsServeInSchedules =
    (c : Core) (events : List Event) (k : ℕ) → IsReached c → k < length (queue_of c) → OnlyServes c events
    → (5 * length c.seats + 5) * (open_calls c + 2 * k + 2) < steps_of_run c events → k < length (popped_record c events)

-- while a record is queued the count is above 0, and while the count is above 0 some event that serves is possible
abbrev pub SomebodyCanServeInSchedules : Type 0
SomebodyCanServeInSchedules =
    (c : Core) → IsReached c → (0 < length (queue_of c) → 0 < c.count) × (0 < c.count → (e : Event) × CanServe c e)

-- No lost hand-off

-- a posted handoff has a watcher
abbrev pub HandoffsAreWatchedInSchedules : Type 0
HandoffsAreWatchedInSchedules = (c : Core) → IsReached c → Watched c

-- if no call is open, nothing is posted, and if the count is above 0 a seat owns or a sleeping seat has its grant
abbrev pub QuiescentStatesRestInSchedules : Type 0
QuiescentStatesRestInSchedules =
    (c : Core) → IsReached c → IsQuiet c → (c.handoff ≡ unposted) × (0 < c.count → IsHeld c ⊎ IsGranted c)

-- a seat that sleeps with no call open is queued, has its grant, is WAITING for a send, or is between a send's claim and its
-- grant
abbrev pub SleepersAreReachableInSchedules : Type 0
SleepersAreReachableInSchedules =
    (c : Core) (t : ℕ) (since : Sleeper) → IsReached c → (seat c.seats t).point ≡ Asleep since
    → IsQueued c t ⊎ (((stamp : ℕ) × (wake c.wakes t ≡ Grant stamp)) ⊎ ((wake c.wakes t ≡ Waiting) ⊎ IsSent c t))

-- after a successful handoff exchange, the push list that the clear-head clears has a record, and the pop list has none
abbrev pub TakesFindARecordInSchedules : Type 0
TakesFindARecordInSchedules =
    (c : Core) (s : ℕ) (carrier : Carrier) → IsReached c → (seat c.seats s).point ≡ TakeClearHead carrier → has_won carrier ≡ true
    → (0 < c.push.next) × (c.popped ≡ [])

-- at the exchange that takes a posted handoff, the push list has a record and the pop list has none
abbrev pub WonPostsHaveARecordInSchedules : Type 0
WonPostsHaveARecordInSchedules = (c : Core) (s : ℕ) → IsReached c → case_of_step c s ≡ Some take → (0 < c.push.next) × (c.popped ≡ [])

-- a push exchange that fails finds a higher stamp, or the same stamp with the head cleared
abbrev pub FailedPushesSeeChangeInSchedules : Type 0
FailedPushesSeeChangeInSchedules =
    (c : Core) (s : ℕ) (pusher : Pusher) (seen : Link) → IsReached c → (seat c.seats s).point ≡ PushExchange pusher seen
    → same_link c.push seen ≡ false → (seen.stamp < c.push.stamp) ⊎ ((c.push.stamp ≡ seen.stamp) × (c.push.next ≡ 0) × (0 < seen.next))

-- a call posts at most once, whatever the others do in between
abbrev pub CallsPostOnceInSchedules : Type 0
CallsPostOnceInSchedules = (c : Core) (s : ℕ) (events : List Event) → IsReached c → weight_of_call post_weight c s events ≤ 1

-- a call grants at most once, whatever the others do in between
abbrev pub CallsGrantOnceInSchedules : Type 0
CallsGrantOnceInSchedules = (c : Core) (s : ℕ) (events : List Event) → IsReached c → weight_of_call grant_weight c s events ≤ 1

-- Linearization points

-- a call has had as many effects as its turn says: one between its start and its end, whatever the others do in between
abbrev pub CallsTakeEffectOnceInSchedules : Type 0
CallsTakeEffectOnceInSchedules =
    (c : Core) (s : ℕ) (call : Call) (events : List Event) → IsReached c
    → TurnsEffects (begin c s call).turn (effects_in c s (begins s call ∷ []))
    × ((begin c s call).turn ≡ Open → StaysInCall (begin c s call).core s events
    → (effects_in c s (begins s call ∷ events) ≤ 1)
    × TurnsEffects (step (run_of (begin c s call).core events) s).turn (effects_in c s (begins s call ∷ (events ++ makes s ∷ []))))

-- each effect is part of the open call of its seat, or of a call that ends at once
abbrev pub EffectsAreOfCallsInSchedules : Type 0
EffectsAreOfCallsInSchedules =
    (c : Core) (s : ℕ) (e : Event) → IsReached c → 0 < effects_of c s e → IsOfOpenCall c e s ⊎ IsOfEndedCall c e s

-- if an effect changes the abstract mutex, the step between the readings is the effect of that call and names its seat or
-- target
abbrev pub EffectsAreTheCallersInSchedules : Type 0
EffectsAreTheCallersInSchedules =
    (c : Core) (s : ℕ) (call : Call) (events : List Event) (a b : AbstractMutex) → IsReached c
    → (begin c s call).turn ≡ Open → StaysInCall (begin c s call).core s events
    → Reads (run_of (begin c s call).core events) a → Reads (step (run_of (begin c s call).core events) s).core b
    → 0 < effects_of_case (case_of_step (run_of (begin c s call).core events) s)
    → (effect : AbstractStep a b)
    × (case_of_step (run_of (begin c s call).core events) s ≡ Some (case_of effect))
    × IsEffectOf call s effect

-- Bounds

-- with N seats, an unlock makes at most N + 7 steps, whatever the others do in between
abbrev pub UnlocksAreBoundedInSchedules : Type 0
UnlocksAreBoundedInSchedules =
    (c : Core) (s : ℕ) (events : List Event) → IsReached c → is_call (seat c.seats s).point ≡ false
    → steps_of_call (begin c s Unlock).core s events ≤ length c.seats + 7

-- a start_wait makes at most N + 8
abbrev pub StartWaitsAreBoundedInSchedules : Type 0
StartWaitsAreBoundedInSchedules =
    (c : Core) (s : ℕ) (events : List Event) → IsReached c → is_call (seat c.seats s).point ≡ false
    → steps_of_call (begin c s StartWait).core s events ≤ length c.seats + 8

-- a try_lock makes at most 6 steps, and a receive at most 3
abbrev pub TriesAndReceivesAreBoundedInSchedules : Type 0
TriesAndReceivesAreBoundedInSchedules =
    (c : Core) (s : ℕ) (events : List Event) → IsReached c → is_call (seat c.seats s).point ≡ false
    → (steps_of_call (begin c s TryLock).core s events ≤ 6) × (steps_of_call (begin c s Receive).core s events ≤ 3)

-- if only its seat makes steps, an open call ends within the number of steps that `*` allows
abbrev pub CallsEndAloneInSchedules : Type 0
CallsEndAloneInSchedules =
    (c : Core) (s : ℕ) → IsReached c → is_call (seat c.seats s).point ≡ true → is_open (steps (longest_call c) c s).turn ≡ false

-- if only its seat makes steps, the push exchange after a failed one succeeds
abbrev pub PushesAloneFailOnceInSchedules : Type 0
PushesAloneFailOnceInSchedules =
    (c : Core) (s : ℕ) (pusher : Pusher) (seen : Link) → IsReached c → (seat c.seats s).point ≡ PushExchange pusher seen
    → same_link c.push seen ≡ false → (seat (run_of c (makes s ∷ makes s ∷ makes s ∷ [])).seats s).point ≡ PushedHandoffLoad pusher

-- if only its seat makes steps, a try_lock of a seat that rests, does not hold and has a take left holds if the count is 0 or a
-- handoff is posted
abbrev pub TriesAloneHoldInSchedules : Type 0
TriesAloneHoldInSchedules =
    (c : Core) (s : ℕ) → IsReached c → IsSeat c.seats s → (seat c.seats s).point ≡ Rest → (seat c.seats s).depth ≡ 0
    → (seat c.seats s).takes < c.budget
    → (c.count ≡ 0 → (steps 2 (begin c s TryLock).core s).turn ≡ Ended (Answer.Locked (Locked.Held How.Free)))
    × (0 < c.handoff.seat → (steps 6 (begin c s TryLock).core s).turn ≡ Ended (Answer.Locked (Locked.Held How.Free)))

-- Lock freedom

-- an open call makes at most N + 9 steps, plus two for each time that another seat changes the push word meanwhile
abbrev pub CallsEndBesideOthersInSchedules : Type 0
CallsEndBesideOthersInSchedules =
    (c : Core) (s : ℕ) (events : List Event) → IsReached c
    → steps_of_call c s events ≤ length c.seats + 9 + 2 * changes_beside c s events

-- an open call changes the push word at most twice itself
abbrev pub CallsChangeThePushWordTwiceInSchedules : Type 0
CallsChangeThePushWordTwiceInSchedules = (c : Core) (s : ℕ) (events : List Event) → IsReached c → changes_of_call c s events ≤ 2

-- all calls of a run together make at most 5N + 5 steps per call
abbrev pub CallsShareTheirStepsInSchedules : Type 0
CallsShareTheirStepsInSchedules =
    (c : Core) (events : List Event) → IsReached c
    → steps_of_run c events ≤ (5 * length c.seats + 5) * (open_calls c + opened_in_run c events)

-- so among any 5N(N + 1) + 1 steps of calls, some call ends
abbrev pub SomeCallEndsInSchedules : Type 0
SomeCallEndsInSchedules =
    (c : Core) (events : List Event) → IsReached c
    → steps_of_run c events ≤ (5 * length c.seats + 5) * (length c.seats + ended_in_run c events)

-- from each state some sequence of steps leads to a state without an open call
abbrev pub NoStateIsStuckInSchedules : Type 0
NoStateIsStuckInSchedules = (c : Core) → IsReached c → ComesToRest c

-- Refusals

-- at some moment between the start of a try_lock and the step that answers Busy, the mutex was neither free nor posted
abbrev pub BusyWasBusyInSchedules : Type 0
BusyWasBusyInSchedules =
    (c : Core) (s : ℕ) (events : List Event) → IsReached c → (begin c s TryLock).turn ≡ Open
    → StaysInCall (begin c s TryLock).core s events → (step (run_of (begin c s TryLock).core events) s).turn ≡ Refused (By Busy)
    → WasBusy (begin c s TryLock).core events

-- Sends

-- a send that has claimed a seat and finds the count above 0 has queued the seat by the time it ends
abbrev pub ClaimedSeatsAreQueuedInSchedules : Type 0
ClaimedSeatsAreQueuedInSchedules =
    (c : Core) (s t : ℕ) (events : List Event) (answer : Answer) → IsReached c → IsToCount c s t → StaysInCall (step c s).core s events
    → (step (run_of (step c s).core events) s).turn ≡ Ended answer → HasQueued (step c s).core s t events
