-- What a seat becomes by one atomic step: one function for each kind, of the seat's data and of what the step found.
use Rattle.std.specs.Prelude.{ℕ, ◌+◌, ◌-◌, Bool, true, false, ◌&&◌, Option, Some, None, nat_eq, if◌then◌else◌}
use Rattle.lfm_protocol.specs.declared.answers.Answer.{Answer}
use Rattle.lfm_protocol.specs.declared.answers.Answer.TheVariants.{Sent, Waiting, Got}
use Rattle.lfm_model.specs.declared.answers.Asked.TheVariants as Asked
use Rattle.lfm_model.specs.declared.answers.How.{How}
use Rattle.lfm_model.specs.declared.answers.How.TheVariants.{Queued}
use Rattle.lfm_model.specs.declared.answers.Locked.TheVariants as Locked
use Rattle.lfm_model.specs.declared.refusals.Refusal.TheVariants.{Busy, NotWaiting}
use Rattle.lfm_protocol.specs.declared.answers.Turn.TheVariants.{Open, Ended, Refused}
use Rattle.lfm_model.specs.declared.answers.Unlocked.{Unlocked}
use Rattle.lfm_model.specs.declared.answers.Unlocked.TheVariants.{Granted, Posted, TakenOver}
use Rattle.lfm_protocol.specs.declared.answers.Why.TheVariants.{Idle, By}
use Rattle.lfm_protocol.specs.declared.points.Carrier.{Carrier}
use Rattle.lfm_protocol.specs.declared.points.Entrant.{Entrant}
use Rattle.lfm_protocol.specs.declared.points.Entrant.TheVariants.{Trier, Receiver}
use Rattle.lfm_protocol.specs.declared.points.Point.{Point}
use Rattle.lfm_protocol.specs.declared.points.Point.TheVariants.{Rest, Asleep, LockCountAdd, LockOwnerLoad, LockCountSubtract, TryCountExchange, TryOwnerLoad, TryHandoffLoad, TryHandoffExchange, TryCountAdd, SendWakeExchange, SendCountAdd, SendPushRecheck, SendWakeStore, PushLoad, LinkStore, PushExchange, PushedHandoffLoad, PushedHandoffExchange, ReleaseOwnerStore, ReleaseCountSubtract, ReleaseHandoffStore, ReleasePushRecheck, ReleaseHandoffExchange, WaitWakeStore, TakeClearHead, TakeLinkLoad, GrantWakeStore, EnterOwnerStore, ReceiveWakeLoad, ReceiveWakeStore}
use Rattle.lfm_protocol.specs.declared.points.Pusher.{Pusher}
use Rattle.lfm_protocol.specs.declared.points.Releaser.{Releaser}
use Rattle.lfm_protocol.specs.declared.points.Releaser.TheVariants.{Unlocker, Waiter}
use Rattle.lfm_protocol.specs.declared.points.Sleeper.{Sleeper}
use Rattle.lfm_protocol.specs.declared.seats.SeatState.{SeatState}
use Rattle.lfm_words.specs.declared.handoffs.Handoff.{Handoff}
use Rattle.lfm_words.specs.declared.links.Link.{Link}
use Rattle.lfm_words.specs.declared.pop_lists.Record.{Record}
use Rattle.lfm_words.specs.declared.wakes.Wake.{Wake}
use Rattle.lfm_words.specs.declared.wakes.Wake.TheVariants.{Grant}
use Rattle.lfm_protocol.specs.Begin.{Stepped, goes_on, ends}
use Rattle.lfm_protocol.specs.Stores.{expected_handoff}

-- the seat is not at a step of this kind
abbrev pub idle : SeatState → Stepped
idle x = record { seat = x; turn = Refused Idle }

-- whether an exchange finds the link that it expects
abbrev pub same_link : Link → Link → Bool
same_link a b = nat_eq a.stamp b.stamp && nat_eq a.next b.next

-- whether an exchange of the handoff word finds the post that it expects
abbrev pub same_handoff : Handoff → Handoff → Bool
same_handoff a b = nat_eq a.seat b.seat && nat_eq a.post b.post

-- What several kinds of steps share

-- the seat with one hold more
abbrev pub deepens : SeatState → SeatState
deepens x = record x { point = Rest; depth = x.depth + 1 }

-- the seat goes to sleep; its record is queued or was already granted
abbrev pub sleeps : SeatState → Stepped
sleeps x =
    record {
      seat = record x { point = Asleep Sleeper.Locker };
      turn = Ended (Answer.Asked Asked.Asleep);
    }

-- the call is refused as Busy, and the seat gives its charge back
abbrev pub busy : SeatState → Stepped
busy x =
    record {
      seat = record x { point = Rest; takes = x.takes - 1 };
      turn = Refused (By Busy);
    }

-- the release ends with this answer; a start_wait has one more step
abbrev pub releases : SeatState → Releaser → Unlocked → Stepped
releases x Unlocker answer = ends x (Answer.Unlocked answer)
releases x Waiter answer = goes_on x (WaitWakeStore answer)

-- the seat has pushed a record, and another party has the responsibility
abbrev pub pushed : SeatState → Pusher → Stepped
pushed x Pusher.Locker = sleeps x
pushed x (Pusher.Sender t) = ends x Sent

-- the seat has granted the oldest record
abbrev pub granted : SeatState → Carrier → Record → Stepped
granted x Carrier.Locker oldest = sleeps x
granted x (Carrier.Releaser releaser) oldest = releases x releaser (Granted oldest.seat)
granted x (Carrier.Reclaimer releaser) oldest = releases x releaser (Granted oldest.seat)
granted x Carrier.Sender oldest = ends x Sent

-- the point of a pusher that found this post
abbrev pub found_posted : Pusher → Handoff → Point
found_posted Pusher.Locker found = PushedHandoffExchange Pusher.Locker found
found_posted (Pusher.Sender t) found = SendPushRecheck t found

-- the carrier that a pusher becomes
abbrev pub carrier_of : Pusher → Carrier
carrier_of Pusher.Locker = Carrier.Locker
carrier_of (Pusher.Sender t) = Carrier.Sender

-- the point at which the carrier s serves the oldest record
abbrev pub serves : Carrier → ℕ → Record → Point
serves Carrier.Locker s oldest =
    if nat_eq oldest.seat s then EnterOwnerStore Entrant.Locker (Queued oldest.stamp) else GrantWakeStore Carrier.Locker oldest
serves carrier s oldest = GrantWakeStore carrier oldest

-- the point at which the carrier s takes the oldest record, if the pop list has one
abbrev pub take : Carrier → ℕ → Option Record → Point
take carrier s None = TakeClearHead carrier
take carrier s (Some oldest) = serves carrier s oldest

-- the point of a carrier after it cleared a push list with this head
abbrev pub once_cleared : Carrier → ℕ → Point
once_cleared (Carrier.Releaser releaser) head = if nat_eq head 0 then ReleaseHandoffStore releaser else TakeLinkLoad (Carrier.Releaser releaser) head
once_cleared carrier head = TakeLinkLoad carrier head

-- the answer of a call whose seat holds now
abbrev pub held : Entrant → How → Answer
held Entrant.Locker how = Answer.Asked (Asked.Held how)
held Trier how = Answer.Locked (Locked.Held how)
held Receiver how = Got (Some how)

-- whether a store at this point takes the oldest record out of the pop list: a locker's own record, or the record that is
-- granted
abbrev pub drops_oldest_at : Point → Bool
drops_oldest_at (EnterOwnerStore Entrant.Locker (Queued stamp)) = true
drops_oldest_at (GrantWakeStore carrier oldest) = true
drops_oldest_at _ = false

-- the same for a seat
abbrev pub drops_oldest : SeatState → Bool
drops_oldest x = drops_oldest_at x.point

-- how the mutex was acquired by a grant with this stamp
abbrev pub how_granted : ℕ → How
how_granted stamp = if nat_eq stamp 0 then How.Free else Queued stamp

-- The kinds: the seat after the step that is named. Each has a form over the point, which is idle at a point of another kind.

-- the count word was exchanged from 0 to 1, or another count was found
abbrev pub after_count_exchange_at : SeatState → ℕ → Point → Stepped
after_count_exchange_at x found TryCountExchange =
    goes_on x (if nat_eq found 0 then EnterOwnerStore Trier How.Free else TryOwnerLoad)
after_count_exchange_at x found _ = idle x

abbrev pub after_count_exchange : SeatState → ℕ → Stepped
after_count_exchange x found = after_count_exchange_at x found x.point

-- 1 was added to the count word, which was `found` before
abbrev pub after_count_add_at : SeatState → ℕ → Point → Stepped
after_count_add_at x found LockCountAdd =
    goes_on x (if nat_eq found 0 then EnterOwnerStore Entrant.Locker How.Free else LockOwnerLoad)
after_count_add_at x found TryCountAdd = goes_on x (EnterOwnerStore Trier How.Free)
after_count_add_at x found (SendCountAdd t) =
    goes_on x (if nat_eq found 0 then SendWakeStore t else PushLoad (Pusher.Sender t))
after_count_add_at x found _ = idle x

abbrev pub after_count_add : SeatState → ℕ → Stepped
after_count_add x found = after_count_add_at x found x.point

-- 1 was subtracted from the count word, which was `found` before; oldest is the first record of the pop list
abbrev pub after_count_subtract_at : SeatState → ℕ → ℕ → Option Record → Point → Stepped
after_count_subtract_at x s found oldest LockCountSubtract =
    record { seat = deepens x; turn = Ended (Answer.Asked (Asked.Again (x.depth + 1))) }
after_count_subtract_at x s found oldest (ReleaseCountSubtract releaser) =
    if nat_eq found 1 then releases x releaser Unlocked.Free else goes_on x (take (Carrier.Releaser releaser) s oldest)
after_count_subtract_at x s found oldest _ = idle x

abbrev pub after_count_subtract : SeatState → ℕ → ℕ → Option Record → Stepped
after_count_subtract x s found oldest = after_count_subtract_at x s found oldest x.point

-- the owner word was loaded
abbrev pub after_owner_load_at : SeatState → ℕ → ℕ → Point → Stepped
after_owner_load_at x s found LockOwnerLoad =
    goes_on x (if nat_eq found s then LockCountSubtract else PushLoad Pusher.Locker)
after_owner_load_at x s found TryOwnerLoad =
    if nat_eq found s
    then record {
      seat = deepens x;
      turn = Ended (Answer.Locked (Locked.Again (x.depth + 1)));
    }
    else goes_on x TryHandoffLoad
after_owner_load_at x s found _ = idle x

abbrev pub after_owner_load : SeatState → ℕ → ℕ → Stepped
after_owner_load x s found = after_owner_load_at x s found x.point

-- a number was stored in the owner word
abbrev pub after_owner_store_at : SeatState → Point → Stepped
after_owner_store_at x (EnterOwnerStore entrant how) =
    record { seat = record x { point = Rest; depth = 1 }; turn = Ended (held entrant how) }
after_owner_store_at x (ReleaseOwnerStore releaser) =
    record { seat = record x { point = ReleaseCountSubtract releaser; depth = 0 }; turn = Open }
after_owner_store_at x _ = idle x

abbrev pub after_owner_store : SeatState → Stepped
after_owner_store x = after_owner_store_at x x.point

-- the push word was loaded
abbrev pub after_push_load_at : SeatState → Link → Point → Stepped
after_push_load_at x found (PushLoad pusher) = goes_on x (LinkStore pusher found)
after_push_load_at x found (SendPushRecheck t seen) =
    if nat_eq found.next 0 then ends x Sent else goes_on x (PushedHandoffExchange (Pusher.Sender t) seen)
after_push_load_at x found (ReleasePushRecheck releaser) =
    if nat_eq found.next 0 then releases x releaser Posted else goes_on x (ReleaseHandoffExchange releaser)
after_push_load_at x found _ = idle x

abbrev pub after_push_load : SeatState → Link → Stepped
after_push_load x found = after_push_load_at x found x.point

-- the push word was exchanged, or another push word was found
abbrev pub after_push_exchange_at : SeatState → Link → Point → Stepped
after_push_exchange_at x found (PushExchange pusher seen) =
    goes_on x (if same_link found seen then PushedHandoffLoad pusher else LinkStore pusher found)
after_push_exchange_at x found _ = idle x

abbrev pub after_push_exchange : SeatState → Link → Stepped
after_push_exchange x found = after_push_exchange_at x found x.point

-- the head of the push word was cleared
abbrev pub after_clear_head_at : SeatState → Link → Point → Stepped
after_clear_head_at x found (TakeClearHead carrier) = goes_on x (once_cleared carrier found.next)
after_clear_head_at x found _ = idle x

abbrev pub after_clear_head : SeatState → Link → Stepped
after_clear_head x found = after_clear_head_at x found x.point

-- the record of seat t, whose link was loaded
abbrev pub loaded : ℕ → Link → Record
loaded t found = record { seat = t; stamp = found.stamp }

-- the link word of the target was loaded
abbrev pub after_link_load_at : SeatState → ℕ → Link → Point → Stepped
after_link_load_at x s found (TakeLinkLoad carrier next) =
    goes_on x (if nat_eq found.next 0 then serves carrier s (loaded next found) else TakeLinkLoad carrier found.next)
after_link_load_at x s found _ = idle x

abbrev pub after_link_load : SeatState → ℕ → Link → Stepped
after_link_load x s found = after_link_load_at x s found x.point

-- a link was stored in the link word of the target
abbrev pub after_link_store_at : SeatState → Point → Stepped
after_link_store_at x (LinkStore pusher seen) = goes_on x (PushExchange pusher seen)
after_link_store_at x _ = idle x

abbrev pub after_link_store : SeatState → Stepped
after_link_store x = after_link_store_at x x.point

-- the handoff word was loaded
abbrev pub after_handoff_load_at : SeatState → Handoff → Point → Stepped
after_handoff_load_at x found (PushedHandoffLoad pusher) =
    if nat_eq found.seat 0 then pushed x pusher else goes_on x (found_posted pusher found)
after_handoff_load_at x found TryHandoffLoad =
    if nat_eq found.seat 0 then busy x else goes_on x (TryHandoffExchange found)
after_handoff_load_at x found _ = idle x

abbrev pub after_handoff_load : SeatState → Handoff → Stepped
after_handoff_load x found = after_handoff_load_at x found x.point

-- a post was stored in the handoff word
abbrev pub after_handoff_store_at : SeatState → Point → Stepped
after_handoff_store_at x (ReleaseHandoffStore releaser) =
    record { seat = record x { point = ReleasePushRecheck releaser; posts = x.posts + 1 }; turn = Open }
after_handoff_store_at x _ = idle x

abbrev pub after_handoff_store : SeatState → Stepped
after_handoff_store x = after_handoff_store_at x x.point

-- the handoff word was exchanged to 0, or another post was found; oldest is the first record of the pop list
abbrev pub after_handoff_exchange_at : SeatState → ℕ → Bool → Option Record → Point → Stepped
after_handoff_exchange_at x s succeeded oldest (PushedHandoffExchange pusher seen) =
    if succeeded then goes_on x (take (carrier_of pusher) s oldest) else pushed x pusher
after_handoff_exchange_at x s succeeded oldest (TryHandoffExchange seen) =
    if succeeded then goes_on x TryCountAdd else busy x
after_handoff_exchange_at x s succeeded oldest (ReleaseHandoffExchange releaser) =
    if succeeded then goes_on x (take (Carrier.Reclaimer releaser) s oldest) else releases x releaser TakenOver
after_handoff_exchange_at x s succeeded oldest _ = idle x

abbrev pub after_handoff_exchange : SeatState → ℕ → Handoff → Option Record → Stepped
after_handoff_exchange x s found oldest =
    after_handoff_exchange_at x s (same_handoff found (expected_handoff x s)) oldest x.point

-- a receive of this sleeper found this wake word
abbrev pub receives : SeatState → Sleeper → Wake → Stepped
receives x sleeper (Grant stamp) = goes_on x (ReceiveWakeStore stamp)
receives x sleeper _ = record { seat = record x { point = Asleep sleeper }; turn = Ended (Got None) }

-- the wake word of the seat was loaded
abbrev pub after_wake_load_at : SeatState → Wake → Point → Stepped
after_wake_load_at x found (ReceiveWakeLoad sleeper) = receives x sleeper found
after_wake_load_at x found _ = idle x

abbrev pub after_wake_load : SeatState → Wake → Stepped
after_wake_load x found = after_wake_load_at x found x.point

-- a state was stored in the wake word of the target
abbrev pub after_wake_store_at : SeatState → Point → Stepped
after_wake_store_at x (GrantWakeStore carrier oldest) = granted x carrier oldest
after_wake_store_at x (SendWakeStore t) = ends x Sent
after_wake_store_at x (WaitWakeStore released) =
    record { seat = record x { point = Asleep Sleeper.Waiter }; turn = Ended (Waiting released) }
after_wake_store_at x (ReceiveWakeStore stamp) = goes_on x (EnterOwnerStore Receiver (how_granted stamp))
after_wake_store_at x _ = idle x

abbrev pub after_wake_store : SeatState → Stepped
after_wake_store x = after_wake_store_at x x.point

-- the sender found this wake word of its target
abbrev pub claims : SeatState → ℕ → Wake → Stepped
claims x t Wake.Waiting = goes_on x (SendCountAdd t)
claims x t _ = record { seat = record x { point = Rest }; turn = Refused (By NotWaiting) }

-- the wake word of the target was exchanged from WAITING to CLAIMED, or another state was found
abbrev pub after_wake_exchange_at : SeatState → Wake → Point → Stepped
after_wake_exchange_at x found (SendWakeExchange t) = claims x t found
after_wake_exchange_at x found _ = idle x

abbrev pub after_wake_exchange : SeatState → Wake → Stepped
after_wake_exchange x found = after_wake_exchange_at x found x.point
