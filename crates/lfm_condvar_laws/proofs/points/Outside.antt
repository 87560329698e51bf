-- No step of a seat outside of condvars leads to a point that only calls on condvars reach. By cases on the point.
use Rattle.std.proofs.Common.{◌≡◌, ℕ, Bool, true, false, refl, sym, if◌then◌else◌}
use Rattle.std.proofs.lemmas.Bool.{false≢true}
use Rattle.std.specs.Prelude.{Option, Some, None, nat_eq}
use Rattle.lfm_model.specs.declared.answers.How.{How}
use Rattle.lfm_model.specs.declared.answers.Unlocked.{Unlocked}
use Rattle.lfm_protocol.specs.declared.answers.Answer.{Answer}
use Rattle.lfm_protocol.specs.declared.points.Carrier.{Carrier}
use Rattle.lfm_protocol.specs.declared.points.Entrant.{Entrant}
use Rattle.lfm_protocol.specs.declared.points.Point.{Point}
use Rattle.lfm_protocol.specs.declared.points.Point.TheVariants.{Rest, Asleep, LockCountAdd, LockOwnerLoad, LockCountSubtract, TryCountExchange, TryOwnerLoad, TryHandoffLoad, TryHandoffExchange, TryCountAdd, SendWakeExchange, SendCountAdd, SendPushRecheck, SendWakeStore, PushLoad, LinkStore, PushExchange, PushedHandoffLoad, PushedHandoffExchange, ReleaseOwnerStore, ReleaseCountSubtract, ReleaseHandoffStore, ReleasePushRecheck, ReleaseHandoffExchange, WaitWakeStore, TakeClearHead, TakeLinkLoad, GrantWakeStore, EnterOwnerStore, ReceiveWakeLoad, ReceiveWakeStore}
use Rattle.lfm_protocol.specs.declared.points.Pusher.{Pusher}
use Rattle.lfm_protocol.specs.declared.points.Releaser.TheVariants.{Unlocker, Waiter}
use Rattle.lfm_protocol.specs.declared.points.Sleeper.{Sleeper}
use Rattle.lfm_protocol.specs.declared.seats.SeatState.{SeatState}
use Rattle.lfm_words.specs.declared.handoffs.Handoff.{Handoff}
use Rattle.lfm_words.specs.declared.pop_lists.Record.{Record}
use Rattle.lfm_words.specs.declared.wakes.Wake.{Wake}
use Rattle.lfm_words.specs.Popped.{oldest}
use Rattle.lfm_protocol.specs.After.{same_link, same_handoff, releases, pushed, granted, found_posted, carrier_of, serves, take, once_cleared, receives, loaded, busy}
use Rattle.lfm_protocol.specs.Begin.{Stepped, goes_on, ends}
use Rattle.lfm_protocol.specs.Core.{Core}
use Rattle.lfm_protocol.specs.Seats.{seat, link, wake}
use Rattle.lfm_laws.proofs.lawful.bounds.Leaving.{stepped}
use Rattle.lfm_condvar_laws.proofs.Invariant.{carries_to_wait, is_of_condvar}

outside_if : (b : Bool) (m n : Stepped) → is_of_condvar m.seat.point ≡ false → is_of_condvar n.seat.point ≡ false
    → is_of_condvar (if b then m else n).seat.point ≡ false
outside_if true m n first second = first
outside_if false m n first second = second

point_if : (b : Bool) (p q : Point) → is_of_condvar p ≡ false → is_of_condvar q ≡ false → is_of_condvar (if b then p else q) ≡ false
point_if true p q first second = first
point_if false p q first second = second

of_pushed : (x : SeatState) (pusher : Pusher) → is_of_condvar (pushed x pusher).seat.point ≡ false
of_pushed x Pusher.Locker = refl
of_pushed x (Pusher.Sender t) = refl

of_granted : (x : SeatState) (carrier : Carrier) (r : Record) → carries_to_wait carrier ≡ false
    → is_of_condvar (granted x carrier r).seat.point ≡ false
of_granted x (Carrier.Releaser Waiter) r none = absurd (false≢true (sym none))
of_granted x (Carrier.Reclaimer Waiter) r none = absurd (false≢true (sym none))
of_granted x (Carrier.Releaser Unlocker) r none = refl
of_granted x (Carrier.Reclaimer Unlocker) r none = refl
of_granted x Carrier.Locker r none = refl
of_granted x Carrier.Sender r none = refl

of_receives : (x : SeatState) (w : Wake) → is_of_condvar (receives x Sleeper.Locker w).seat.point ≡ false
of_receives x (Wake.Grant stamp) = refl
of_receives x _ = refl

of_found_posted : (pusher : Pusher) (found : Handoff) → is_of_condvar (found_posted pusher found) ≡ false
of_found_posted Pusher.Locker found = refl
of_found_posted (Pusher.Sender t) found = refl

of_serves : (carrier : Carrier) (s : ℕ) (r : Record) → carries_to_wait carrier ≡ false → is_of_condvar (serves carrier s r) ≡ false
of_serves Carrier.Locker s r none =
    point_if (nat_eq r.seat s) (EnterOwnerStore Entrant.Locker (How.Queued r.stamp)) (GrantWakeStore Carrier.Locker r) refl refl
of_serves (Carrier.Releaser releaser) s r none = none
of_serves (Carrier.Reclaimer releaser) s r none = none
of_serves Carrier.Sender s r none = refl

of_take : (carrier : Carrier) (s : ℕ) (first : Option Record) → carries_to_wait carrier ≡ false
    → is_of_condvar (take carrier s first) ≡ false
of_take carrier s None none = none
of_take carrier s (Some r) none = of_serves carrier s r none

of_pusher : (pusher : Pusher) → carries_to_wait (carrier_of pusher) ≡ false
of_pusher Pusher.Locker = refl
of_pusher (Pusher.Sender t) = refl

of_cleared : (carrier : Carrier) (head : ℕ) → carries_to_wait carrier ≡ false → is_of_condvar (once_cleared carrier head) ≡ false
of_cleared Carrier.Locker head none = refl
of_cleared (Carrier.Releaser Waiter) head none = absurd (false≢true (sym none))
of_cleared (Carrier.Releaser Unlocker) head none =
    point_if (nat_eq head 0) (ReleaseHandoffStore Unlocker) (TakeLinkLoad (Carrier.Releaser Unlocker) head) refl refl
of_cleared (Carrier.Reclaimer releaser) head none = none
of_cleared Carrier.Sender head none = refl

outside_from : (c : Core) (s : ℕ) (p : Point) → (seat c.seats s).point ≡ p → is_of_condvar p ≡ false
    → is_of_condvar (stepped c s).seat.point ≡ false
outside_from c s (SendWakeExchange t) at before = absurd (false≢true (sym before))
outside_from c s Rest at before = rw (at, at) refl
outside_from c s (Asleep sleeper) at before = rw (at, at) before
outside_from c s LockCountAdd at before =
    rw (at, at) (point_if (nat_eq c.count 0) (EnterOwnerStore Entrant.Locker How.Free) LockOwnerLoad refl refl)
outside_from c s LockOwnerLoad at before =
    rw (at, at) (point_if (nat_eq c.owner s) LockCountSubtract (PushLoad Pusher.Locker) refl refl)
outside_from c s LockCountSubtract at before = rw (at, at) refl
outside_from c s TryCountExchange at before =
    rw (at, at) (point_if (nat_eq c.count 0) (EnterOwnerStore Entrant.Trier How.Free) TryOwnerLoad refl refl)
outside_from c s TryOwnerLoad at before =
    rw (at, at) (outside_if (nat_eq c.owner s) _ (goes_on (seat c.seats s) TryHandoffLoad) refl refl)
outside_from c s TryHandoffLoad at before =
    rw (at, at) (outside_if (nat_eq c.handoff.seat 0) (busy (seat c.seats s))
    (goes_on (seat c.seats s) (TryHandoffExchange c.handoff)) refl refl)
outside_from c s (TryHandoffExchange seen) at before =
    rw (at, at) (outside_if (same_handoff c.handoff seen) (goes_on (seat c.seats s) TryCountAdd)
    (busy (seat c.seats s)) refl refl)
outside_from c s TryCountAdd at before = rw (at, at) refl
outside_from c s (SendCountAdd t) at before =
    rw (at, at) (point_if (nat_eq c.count 0) (SendWakeStore t) (PushLoad (Pusher.Sender t)) refl refl)
outside_from c s (SendPushRecheck t seen) at before =
    rw (at, at) (outside_if (nat_eq c.push.next 0) (ends (seat c.seats s) Answer.Sent)
    (goes_on (seat c.seats s) (PushedHandoffExchange (Pusher.Sender t) seen)) refl refl)
outside_from c s (SendWakeStore t) at before = rw (at, at) refl
outside_from c s (PushLoad pusher) at before = rw (at, at) refl
outside_from c s (LinkStore pusher seen) at before = rw (at, at) refl
outside_from c s (PushExchange pusher seen) at before =
    rw (at, at) (point_if (same_link c.push seen) (PushedHandoffLoad pusher) (LinkStore pusher c.push) refl refl)
outside_from c s (PushedHandoffLoad pusher) at before =
    rw (at, at) (outside_if (nat_eq c.handoff.seat 0) (pushed (seat c.seats s) pusher)
    (goes_on (seat c.seats s) (found_posted pusher c.handoff))
    (of_pushed (seat c.seats s) pusher) (of_found_posted pusher c.handoff))
outside_from c s (PushedHandoffExchange pusher seen) at before =
    rw (at, at) (outside_if (same_handoff c.handoff seen) (goes_on (seat c.seats s)
    (take (carrier_of pusher) s (oldest c.popped))) (pushed (seat c.seats s) pusher)
    (of_take (carrier_of pusher) s (oldest c.popped) (of_pusher pusher)) (of_pushed (seat c.seats s) pusher))
outside_from c s (ReleaseOwnerStore Waiter) at before = absurd (false≢true (sym before))
outside_from c s (ReleaseCountSubtract Waiter) at before = absurd (false≢true (sym before))
outside_from c s (ReleaseHandoffStore Waiter) at before = absurd (false≢true (sym before))
outside_from c s (ReleasePushRecheck Waiter) at before = absurd (false≢true (sym before))
outside_from c s (ReleaseHandoffExchange Waiter) at before = absurd (false≢true (sym before))
outside_from c s (WaitWakeStore released) at before = absurd (false≢true (sym before))
outside_from c s (ReleaseOwnerStore Unlocker) at before = rw (at, at) refl
outside_from c s (ReleaseCountSubtract Unlocker) at before =
    rw (at, at) (outside_if (nat_eq c.count 1) (releases (seat c.seats s) Unlocker Unlocked.Free)
    (goes_on (seat c.seats s) (take (Carrier.Releaser Unlocker) s (oldest c.popped)))
    refl (of_take (Carrier.Releaser Unlocker) s (oldest c.popped) refl))
outside_from c s (ReleaseHandoffStore Unlocker) at before = rw (at, at) refl
outside_from c s (ReleasePushRecheck Unlocker) at before =
    rw (at, at) (outside_if (nat_eq c.push.next 0) (releases (seat c.seats s) Unlocker Unlocked.Posted)
    (goes_on (seat c.seats s) (ReleaseHandoffExchange Unlocker)) refl refl)
outside_from c s (ReleaseHandoffExchange Unlocker) at before =
    rw (at, at) (outside_if (same_handoff c.handoff (record { seat = s; post = (seat c.seats s).posts }))
    (goes_on (seat c.seats s) (take (Carrier.Reclaimer Unlocker) s (oldest c.popped)))
    (releases (seat c.seats s) Unlocker Unlocked.TakenOver)
    (of_take (Carrier.Reclaimer Unlocker) s (oldest c.popped) refl) refl)
outside_from c s (TakeClearHead carrier) at before = rw (at, at) (of_cleared carrier c.push.next before)
outside_from c s (TakeLinkLoad carrier next) at before =
    let found = link c.links next in
    rw (at, at) (point_if (nat_eq found.next 0) (serves carrier s (loaded next found)) (TakeLinkLoad carrier found.next)
    (of_serves carrier s (loaded next found) before) before)
outside_from c s (GrantWakeStore carrier r) at before = rw (at, at) (of_granted (seat c.seats s) carrier r before)
outside_from c s (EnterOwnerStore entrant how) at before = rw (at, at) refl
outside_from c s (ReceiveWakeLoad Sleeper.Waiter) at before = absurd (false≢true (sym before))
outside_from c s (ReceiveWakeLoad Sleeper.Locker) at before = rw (at, at) (of_receives (seat c.seats s) (wake c.wakes s))
outside_from c s (ReceiveWakeStore stamp) at before = rw (at, at) refl

pub stays_outside : (c : Core) (s : ℕ) → is_of_condvar (seat c.seats s).point ≡ false
    → is_of_condvar (stepped c s).seat.point ≡ false
stays_outside c s before = outside_from c s (seat c.seats s).point refl before
