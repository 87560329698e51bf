-- The call to which each point belongs; each step stays in its call, ends it with an answer of that call, or is refused; and
-- the points at which a release can end. By cases on the point.
use Rattle.std.proofs.Common.{◌≡◌, ℕ, Bool, true, false, ◌+◌, nat_eq, refl, sym, if◌then◌else◌}
use Rattle.std.proofs.lemmas.Bool.{false≢true}
use Rattle.std.specs.Prelude.{Option, Some, None}
use Rattle.lfm_model.specs.declared.answers.Asked.{Asked}
use Rattle.lfm_model.specs.declared.answers.How.{How}
use Rattle.lfm_model.specs.declared.answers.Locked.{Locked}
use Rattle.lfm_model.specs.declared.answers.Unlocked.{Unlocked}
use Rattle.lfm_protocol.specs.declared.answers.Answer.{Answer}
use Rattle.lfm_protocol.specs.declared.answers.Call.{Call}
use Rattle.lfm_protocol.specs.declared.answers.Call.TheVariants.{Lock, TryLock, Unlock, StartWait, SendLock, Receive}
use Rattle.lfm_protocol.specs.declared.answers.Turn.{Turn}
use Rattle.lfm_protocol.specs.declared.answers.Turn.TheVariants.{Open, Ended, Refused}
use Rattle.lfm_protocol.specs.declared.points.Carrier.{Carrier}
use Rattle.lfm_protocol.specs.declared.points.Entrant.{Entrant}
use Rattle.lfm_protocol.specs.declared.points.Point.{Point}
use Rattle.lfm_protocol.specs.declared.points.Point.TheVariants.{Rest, Asleep, LockCountAdd, LockOwnerLoad, LockCountSubtract, TryCountExchange, TryOwnerLoad, TryHandoffLoad, TryHandoffExchange, TryCountAdd, SendWakeExchange, SendCountAdd, SendPushRecheck, SendWakeStore, PushLoad, LinkStore, PushExchange, PushedHandoffLoad, PushedHandoffExchange, ReleaseOwnerStore, ReleaseCountSubtract, ReleaseHandoffStore, ReleasePushRecheck, ReleaseHandoffExchange, WaitWakeStore, TakeClearHead, TakeLinkLoad, GrantWakeStore, EnterOwnerStore, ReceiveWakeLoad, ReceiveWakeStore}
use Rattle.lfm_protocol.specs.declared.points.Pusher.{Pusher}
use Rattle.lfm_protocol.specs.declared.points.Releaser.{Releaser}
use Rattle.lfm_protocol.specs.declared.points.Releaser.TheVariants.{Unlocker, Waiter}
use Rattle.lfm_protocol.specs.declared.points.Sleeper.{Sleeper}
use Rattle.lfm_protocol.specs.declared.seats.SeatState.{SeatState}
use Rattle.lfm_words.specs.declared.handoffs.Handoff.{Handoff}
use Rattle.lfm_words.specs.declared.pop_lists.Record.{Record}
use Rattle.lfm_words.specs.declared.wakes.Wake.{Wake}
use Rattle.lfm_words.specs.Popped.{oldest}
use Rattle.lfm_protocol.specs.After.{same_link, same_handoff, deepens, busy, releases, pushed, granted, found_posted, carrier_of, serves, take, once_cleared, held, receives, claims, loaded, how_granted}
use Rattle.lfm_protocol.specs.Begin.{Stepped, goes_on, ends}
use Rattle.lfm_protocol.specs.Core.{Core}
use Rattle.lfm_protocol.specs.Seats.{seat, link, wake}
use Rattle.lfm_laws.specs.laws.Endings.{IsAnswerOf}
use Rattle.lfm_laws.specs.laws.Releases.{release_ended}
use Rattle.lfm_laws.specs.laws.Schedules.{is_call}
use Rattle.lfm_laws.proofs.lawful.bounds.Leaving.{stepped}

-- The call of a point; one send represents the sends to all targets

abbrev pub call_of_pusher : Pusher → Call
call_of_pusher Pusher.Locker = Lock
call_of_pusher (Pusher.Sender t) = SendLock 0

abbrev pub call_of_releaser : Releaser → Call
call_of_releaser Unlocker = Unlock
call_of_releaser Waiter = StartWait

abbrev pub call_of_carrier : Carrier → Call
call_of_carrier Carrier.Locker = Lock
call_of_carrier (Carrier.Releaser releaser) = call_of_releaser releaser
call_of_carrier (Carrier.Reclaimer releaser) = call_of_releaser releaser
call_of_carrier Carrier.Sender = SendLock 0

abbrev pub call_of_entrant : Entrant → Call
call_of_entrant Entrant.Locker = Lock
call_of_entrant Entrant.Trier = TryLock
call_of_entrant Entrant.Receiver = Receive

-- at a point outside of a call the value has no meaning
abbrev pub call_at : Point → Call
call_at Rest = Lock
call_at (Asleep sleeper) = Lock
call_at LockCountAdd = Lock
call_at LockOwnerLoad = Lock
call_at LockCountSubtract = Lock
call_at TryCountExchange = TryLock
call_at TryOwnerLoad = TryLock
call_at TryHandoffLoad = TryLock
call_at (TryHandoffExchange seen) = TryLock
call_at TryCountAdd = TryLock
call_at (SendWakeExchange t) = SendLock 0
call_at (SendCountAdd t) = SendLock 0
call_at (SendPushRecheck t seen) = SendLock 0
call_at (SendWakeStore t) = SendLock 0
call_at (PushLoad pusher) = call_of_pusher pusher
call_at (LinkStore pusher seen) = call_of_pusher pusher
call_at (PushExchange pusher seen) = call_of_pusher pusher
call_at (PushedHandoffLoad pusher) = call_of_pusher pusher
call_at (PushedHandoffExchange pusher seen) = call_of_pusher pusher
call_at (ReleaseOwnerStore releaser) = call_of_releaser releaser
call_at (ReleaseCountSubtract releaser) = call_of_releaser releaser
call_at (ReleaseHandoffStore releaser) = call_of_releaser releaser
call_at (ReleasePushRecheck releaser) = call_of_releaser releaser
call_at (ReleaseHandoffExchange releaser) = call_of_releaser releaser
call_at (WaitWakeStore answer) = StartWait
call_at (TakeClearHead carrier) = call_of_carrier carrier
call_at (TakeLinkLoad carrier next) = call_of_carrier carrier
call_at (GrantWakeStore carrier oldest) = call_of_carrier carrier
call_at (EnterOwnerStore entrant how) = call_of_entrant entrant
call_at (ReceiveWakeLoad sleeper) = Receive
call_at (ReceiveWakeStore stamp) = Receive

-- What a step of a call does

abbrev pub StaysOrEnds : Call → Turn → Point → Type 0
StaysOrEnds call Open p = call_at p ≡ call
StaysOrEnds call (Ended answer) p = IsAnswerOf call answer × (is_call p ≡ false)
StaysOrEnds call (Refused why) p = is_call p ≡ false

-- the answer that a point keeps for the last step of its call: of a start_wait, and of a call that comes to hold
abbrev pub kept_answer : Answer → Option Answer
kept_answer (Answer.Waiting answer) = Some (Answer.Waiting answer)
kept_answer (Answer.Asked (Asked.Held how)) = Some (Answer.Asked (Asked.Held how))
kept_answer (Answer.Locked (Locked.Held how)) = Some (Answer.Locked (Locked.Held how))
kept_answer (Answer.Got (Some how)) = Some (Answer.Got (Some how))
kept_answer _ = None

abbrev pub kept_told : Turn → Option Answer
kept_told (Ended answer) = kept_answer answer
kept_told _ = None

abbrev pub kept_at : Point → Option Answer
kept_at (WaitWakeStore answer) = Some (Answer.Waiting answer)
kept_at (EnterOwnerStore entrant how) = Some (held entrant how)
kept_at _ = None

-- the step stays in this call or ends it, answers what its point keeps, and ends no release unless `may_end` allows it
pub record StaysInCall (call : Call) (keeps : Option Answer) (may_end : Bool) (m : Stepped) : Type 0 where
  pub follows : StaysOrEnds call m.turn m.seat.point
  pub told : kept_told m.turn ≡ keeps
  pub silent : may_end ≡ false → release_ended m.turn m.seat.point ≡ None

follows_if : (call : Call) (may_end b : Bool) (m n : Stepped) → StaysInCall call None may_end m → StaysInCall call None may_end n → StaysInCall call None may_end (if b then m else n)
follows_if call may_end true m n first second = first
follows_if call may_end false m n first second = second

-- a point of this call at which no release has ended
pub record IsNext (call : Call) (p : Point) : Type 0 where
  pub here : call_at p ≡ call
  pub silent : release_ended Open p ≡ None

next_if : (call : Call) (b : Bool) (p q : Point) → IsNext call p → IsNext call q → IsNext call (if b then p else q)
next_if call true p q first second = first
next_if call false p q first second = second

goes : (x : SeatState) (call : Call) (may_end : Bool) (p : Point) → IsNext call p → StaysInCall call None may_end (goes_on x p)
goes x call may_end p next = record { follows = next.here; silent = λ e. next.silent; told = refl }

either : (x : SeatState) (call : Call) (may_end b : Bool) (p q : Point) → IsNext call p → IsNext call q → StaysInCall call None may_end (goes_on x (if b then p else q))
either x call may_end b p q first second = goes x call may_end _ (next_if call b p q first second)

-- Next points

next_found_posted : (pusher : Pusher) (found : Handoff) → IsNext (call_of_pusher pusher) (found_posted pusher found)
next_found_posted Pusher.Locker found = record { here = refl; silent = refl }
next_found_posted (Pusher.Sender t) found = record { here = refl; silent = refl }

next_serves : (carrier : Carrier) (s : ℕ) (r : Record) → IsNext (call_of_carrier carrier) (serves carrier s r)
next_serves Carrier.Locker s r =
    next_if Lock (nat_eq r.seat s) (EnterOwnerStore Entrant.Locker (How.Queued r.stamp)) (GrantWakeStore Carrier.Locker r)
    (record { here = refl; silent = refl }) (record { here = refl; silent = refl })
next_serves (Carrier.Releaser releaser) s r = record { here = refl; silent = refl }
next_serves (Carrier.Reclaimer releaser) s r = record { here = refl; silent = refl }
next_serves Carrier.Sender s r = record { here = refl; silent = refl }

pub next_take : (carrier : Carrier) (s : ℕ) (first : Option Record) → IsNext (call_of_carrier carrier) (take carrier s first)
next_take carrier s None = record { here = refl; silent = refl }
next_take carrier s (Some r) = next_serves carrier s r

next_takes : (pusher : Pusher) (s : ℕ) (first : Option Record) → IsNext (call_of_pusher pusher) (take (carrier_of pusher) s first)
next_takes Pusher.Locker s first = next_take Carrier.Locker s first
next_takes (Pusher.Sender t) s first = next_take Carrier.Sender s first

next_cleared : (carrier : Carrier) (head : ℕ) → IsNext (call_of_carrier carrier) (once_cleared carrier head)
next_cleared Carrier.Locker head = record { here = refl; silent = refl }
next_cleared (Carrier.Releaser releaser) head =
    next_if (call_of_releaser releaser) (nat_eq head 0) (ReleaseHandoffStore releaser) (TakeLinkLoad (Carrier.Releaser releaser) head)
    (record { here = refl; silent = refl }) (record { here = refl; silent = refl })
next_cleared (Carrier.Reclaimer releaser) head = record { here = refl; silent = refl }
next_cleared Carrier.Sender head = record { here = refl; silent = refl }

-- Calls that end

sent : (x : SeatState) (may_end : Bool) → StaysInCall (SendLock 0) None may_end (ends x Answer.Sent)
sent x may_end = record { follows = (tt, refl); silent = λ e. refl; told = refl }

pushes : (x : SeatState) (pusher : Pusher) → StaysInCall (call_of_pusher pusher) None false (pushed x pusher)
pushes x Pusher.Locker = record { follows = (tt, refl); silent = λ e. refl; told = refl }
pushes x (Pusher.Sender t) = sent x false

released : (x : SeatState) (releaser : Releaser) (answer : Unlocked) → StaysInCall (call_of_releaser releaser) None true (releases x releaser answer)
released x Unlocker answer = record { follows = (tt, refl); silent = λ e. absurd (false≢true (sym e)); told = refl }
released x Waiter answer = record { follows = refl; silent = λ e. absurd (false≢true (sym e)); told = refl }

grants : (x : SeatState) (carrier : Carrier) (r : Record) → StaysInCall (call_of_carrier carrier) None true (granted x carrier r)
grants x Carrier.Locker r = record { follows = (tt, refl); silent = λ e. refl; told = refl }
grants x (Carrier.Releaser releaser) r = released x releaser (Unlocked.Granted r.seat)
grants x (Carrier.Reclaimer releaser) r = released x releaser (Unlocked.Granted r.seat)
grants x Carrier.Sender r = sent x true

enters : (x : SeatState) (entrant : Entrant) (how : How)
    → StaysInCall (call_of_entrant entrant) (Some (held entrant how)) false (record { seat = record x { point = Rest; depth = 1 }; turn = Ended (held entrant how) })
enters x Entrant.Locker how = record { follows = (tt, refl); silent = λ e. refl; told = refl }
enters x Entrant.Trier how = record { follows = (tt, refl); silent = λ e. refl; told = refl }
enters x Entrant.Receiver how = record { follows = (tt, refl); silent = λ e. refl; told = refl }

loads : (x : SeatState) (sleeper : Sleeper) (w : Wake) → StaysInCall Receive None false (receives x sleeper w)
loads x sleeper (Wake.Grant stamp) = record { follows = refl; silent = λ e. refl; told = refl }
loads x sleeper _ = record { follows = (tt, refl); silent = λ e. refl; told = refl }

refunds : (x : SeatState) → StaysInCall TryLock None false (busy x)
refunds x = record { follows = refl; silent = λ e. refl; told = refl }

claims_target : (x : SeatState) (t : ℕ) (w : Wake) → StaysInCall (SendLock 0) None false (claims x t w)
claims_target x t Wake.Waiting = record { follows = refl; silent = λ e. refl; told = refl }
claims_target x t _ = record { follows = refl; silent = λ e. refl; told = refl }

again : (x : SeatState) → StaysInCall TryLock None false (record { seat = deepens x; turn = Ended (Answer.Locked (Locked.Again (x.depth + 1))) })
again x = record { follows = (tt, refl); silent = λ e. refl; told = refl }

-- All points

-- a release may end with the step at this point
abbrev pub may_end_at : Point → Bool
may_end_at (ReleaseCountSubtract releaser) = true
may_end_at (ReleasePushRecheck releaser) = true
may_end_at (ReleaseHandoffExchange releaser) = true
may_end_at (GrantWakeStore carrier oldest) = true
may_end_at _ = false

here : (call : Call) (p : Point) → call_at p ≡ call → release_ended Open p ≡ None → IsNext call p
here call p same silent = record { here = same; silent = silent }

pub step_follows : (c : Core) (s : ℕ) (p : Point) → (seat c.seats s).point ≡ p → is_call p ≡ true → StaysInCall (call_at p) (kept_at p) (may_end_at p) (stepped c s)
step_follows c s Rest at inside = absurd (false≢true inside)
step_follows c s (Asleep sleeper) at inside = absurd (false≢true inside)
step_follows c s LockCountAdd at inside =
    rw (at, at) (either (seat c.seats s) Lock false (nat_eq c.count 0) (EnterOwnerStore Entrant.Locker How.Free) LockOwnerLoad (here Lock _ refl refl) (here Lock _ refl refl))
step_follows c s LockOwnerLoad at inside =
    rw (at, at) (either (seat c.seats s) Lock false (nat_eq c.owner s) LockCountSubtract (PushLoad Pusher.Locker) (here Lock _ refl refl) (here Lock _ refl refl))
step_follows c s LockCountSubtract at inside = rw (at, at) (record { follows = (tt, refl); silent = λ e. refl; told = refl })
step_follows c s TryCountExchange at inside =
    rw (at, at) (either (seat c.seats s) TryLock false (nat_eq c.count 0) (EnterOwnerStore Entrant.Trier How.Free) TryOwnerLoad (here TryLock _ refl refl) (here TryLock _ refl refl))
step_follows c s TryOwnerLoad at inside =
    let told : Turn = Ended (Answer.Locked (Locked.Again ((seat c.seats s).depth + 1))) in
    rw (at, at) (follows_if TryLock false (nat_eq c.owner s) (record { seat = deepens (seat c.seats s); turn = told }) (goes_on (seat c.seats s) TryHandoffLoad)
    (again (seat c.seats s)) (goes (seat c.seats s) TryLock false TryHandoffLoad (here TryLock _ refl refl)))
step_follows c s TryHandoffLoad at inside =
    rw (at, at) (follows_if TryLock false (nat_eq c.handoff.seat 0) (busy (seat c.seats s)) (goes_on (seat c.seats s) (TryHandoffExchange c.handoff))
    (refunds (seat c.seats s)) (goes (seat c.seats s) TryLock false (TryHandoffExchange c.handoff) (here TryLock _ refl refl)))
step_follows c s (TryHandoffExchange seen) at inside =
    rw (at, at) (follows_if TryLock false (same_handoff c.handoff seen) (goes_on (seat c.seats s) TryCountAdd) (busy (seat c.seats s))
    (goes (seat c.seats s) TryLock false TryCountAdd (here TryLock _ refl refl)) (refunds (seat c.seats s)))
step_follows c s TryCountAdd at inside = rw (at, at) (goes (seat c.seats s) TryLock false (EnterOwnerStore Entrant.Trier How.Free) (here TryLock _ refl refl))
step_follows c s (SendWakeExchange t) at inside = rw (at, at) (claims_target (seat c.seats s) t (wake c.wakes t))
step_follows c s (SendCountAdd t) at inside =
    rw (at, at) (either (seat c.seats s) (SendLock 0) false (nat_eq c.count 0) (SendWakeStore t) (PushLoad (Pusher.Sender t)) (here (SendLock 0) _ refl refl) (here (SendLock 0) _ refl refl))
step_follows c s (SendPushRecheck t seen) at inside =
    rw (at, at) (follows_if (SendLock 0) false (nat_eq c.push.next 0) (ends (seat c.seats s) Answer.Sent) (goes_on (seat c.seats s) (PushedHandoffExchange (Pusher.Sender t) seen))
    (sent (seat c.seats s) false) (goes (seat c.seats s) (SendLock 0) false (PushedHandoffExchange (Pusher.Sender t) seen) (here (SendLock 0) _ refl refl)))
step_follows c s (SendWakeStore t) at inside = rw (at, at) (sent (seat c.seats s) false)
step_follows c s (PushLoad pusher) at inside = rw (at, at) (goes (seat c.seats s) (call_of_pusher pusher) false (LinkStore pusher c.push) (here _ _ refl refl))
step_follows c s (LinkStore pusher seen) at inside = rw (at, at) (goes (seat c.seats s) (call_of_pusher pusher) false (PushExchange pusher seen) (here _ _ refl refl))
step_follows c s (PushExchange pusher seen) at inside =
    rw (at, at) (either (seat c.seats s) (call_of_pusher pusher) false (same_link c.push seen) (PushedHandoffLoad pusher) (LinkStore pusher c.push)
    (here _ _ refl refl) (here _ _ refl refl))
step_follows c s (PushedHandoffLoad pusher) at inside =
    rw (at, at) (follows_if (call_of_pusher pusher) false (nat_eq c.handoff.seat 0) (pushed (seat c.seats s) pusher) (goes_on (seat c.seats s) (found_posted pusher c.handoff))
    (pushes (seat c.seats s) pusher) (goes (seat c.seats s) (call_of_pusher pusher) false (found_posted pusher c.handoff) (next_found_posted pusher c.handoff)))
step_follows c s (PushedHandoffExchange pusher seen) at inside =
    let next : Point = take (carrier_of pusher) s (oldest c.popped) in
    rw (at, at) (follows_if (call_of_pusher pusher) false (same_handoff c.handoff seen) (goes_on (seat c.seats s) next) (pushed (seat c.seats s) pusher)
    (goes (seat c.seats s) (call_of_pusher pusher) false next (next_takes pusher s (oldest c.popped))) (pushes (seat c.seats s) pusher))
step_follows c s (ReleaseOwnerStore releaser) at inside = rw (at, at) (record { follows = refl; silent = λ e. refl; told = refl })
step_follows c s (ReleaseCountSubtract releaser) at inside =
    let next : Point = take (Carrier.Releaser releaser) s (oldest c.popped) in
    rw (at, at) (follows_if (call_of_releaser releaser) true (nat_eq c.count 1) (releases (seat c.seats s) releaser Unlocked.Free) (goes_on (seat c.seats s) next)
    (released (seat c.seats s) releaser Unlocked.Free) (goes (seat c.seats s) (call_of_releaser releaser) true next (next_take (Carrier.Releaser releaser) s (oldest c.popped))))
step_follows c s (ReleaseHandoffStore releaser) at inside = rw (at, at) (record { follows = refl; silent = λ e. refl; told = refl })
step_follows c s (ReleasePushRecheck releaser) at inside =
    rw (at, at) (follows_if (call_of_releaser releaser) true (nat_eq c.push.next 0) (releases (seat c.seats s) releaser Unlocked.Posted) (goes_on (seat c.seats s) (ReleaseHandoffExchange releaser))
    (released (seat c.seats s) releaser Unlocked.Posted) (goes (seat c.seats s) (call_of_releaser releaser) true (ReleaseHandoffExchange releaser) (here _ _ refl refl)))
step_follows c s (ReleaseHandoffExchange releaser) at inside =
    let next : Point = take (Carrier.Reclaimer releaser) s (oldest c.popped) in
    rw (at, at) (follows_if (call_of_releaser releaser) true (same_handoff c.handoff (record { seat = s; post = (seat c.seats s).posts })) (goes_on (seat c.seats s) next)
    (releases (seat c.seats s) releaser Unlocked.TakenOver) (goes (seat c.seats s) (call_of_releaser releaser) true next (next_take (Carrier.Reclaimer releaser) s (oldest c.popped)))
    (released (seat c.seats s) releaser Unlocked.TakenOver))
step_follows c s (WaitWakeStore answer) at inside = rw (at, at) (record { follows = (tt, refl); silent = λ e. refl; told = refl })
step_follows c s (TakeClearHead carrier) at inside =
    rw (at, at) (goes (seat c.seats s) (call_of_carrier carrier) false (once_cleared carrier c.push.next) (next_cleared carrier c.push.next))
step_follows c s (TakeLinkLoad carrier next) at inside =
    let found = link c.links next in
    rw (at, at) (either (seat c.seats s) (call_of_carrier carrier) false (nat_eq found.next 0) (serves carrier s (loaded next found)) (TakeLinkLoad carrier found.next)
    (next_serves carrier s (loaded next found)) (here _ _ refl refl))
step_follows c s (GrantWakeStore carrier r) at inside = rw (at, at) (grants (seat c.seats s) carrier r)
step_follows c s (EnterOwnerStore entrant how) at inside = rw (at, at) (enters (seat c.seats s) entrant how)
step_follows c s (ReceiveWakeLoad sleeper) at inside = rw (at, at) (loads (seat c.seats s) sleeper (wake c.wakes s))
step_follows c s (ReceiveWakeStore stamp) at inside = rw (at, at) (goes (seat c.seats s) Receive false (EnterOwnerStore Entrant.Receiver (how_granted stamp)) (here Receive _ refl refl))
