-- Steps that are never refused and lead to no point from which Busy may follow. By cases on the point.
use Rattle.std.proofs.Common.{◌≡◌, ◌≢◌, ℕ, Bool, true, false, refl, if◌then◌else◌}
use Rattle.lfm_model.specs.declared.answers.Unlocked.{Unlocked}
use Rattle.lfm_protocol.specs.declared.answers.Turn.TheVariants.{Refused}
use Rattle.lfm_protocol.specs.declared.answers.Why.{Why}
use Rattle.lfm_protocol.specs.declared.kinds.Kind.{Kind}
use Rattle.lfm_protocol.specs.declared.points.Carrier.{Carrier}
use Rattle.lfm_protocol.specs.declared.points.Entrant.{Entrant}
use Rattle.lfm_protocol.specs.declared.points.Point.{Point}
use Rattle.lfm_protocol.specs.declared.points.Point.TheVariants.{Rest, Asleep, LockCountAdd, LockOwnerLoad, LockCountSubtract, TryCountExchange, TryOwnerLoad, TryHandoffLoad, TryHandoffExchange, TryCountAdd, SendWakeExchange, SendCountAdd, SendPushRecheck, SendWakeStore, PushLoad, LinkStore, PushExchange, PushedHandoffLoad, PushedHandoffExchange, ReleaseOwnerStore, ReleaseCountSubtract, ReleaseHandoffStore, ReleasePushRecheck, ReleaseHandoffExchange, WaitWakeStore, TakeClearHead, TakeLinkLoad, GrantWakeStore, EnterOwnerStore, ReceiveWakeLoad, ReceiveWakeStore}
use Rattle.lfm_protocol.specs.declared.points.Pusher.{Pusher}
use Rattle.lfm_protocol.specs.declared.points.Releaser.{Releaser}
use Rattle.lfm_protocol.specs.declared.points.Releaser.TheVariants.{Unlocker, Waiter}
use Rattle.lfm_protocol.specs.declared.points.Sleeper.{Sleeper}
use Rattle.lfm_protocol.specs.declared.seats.SeatState.{SeatState}
use Rattle.lfm_words.specs.declared.handoffs.Handoff.{Handoff}
use Rattle.lfm_words.specs.declared.pop_lists.Record.{Record}
use Rattle.lfm_words.specs.declared.wakes.Wake.{Wake}
use Rattle.lfm_words.specs.Popped.{oldest}
use Rattle.std.specs.Prelude.{Option, Some, None, nat_eq}
use Rattle.lfm_model.specs.declared.answers.How.{How}
use Rattle.lfm_protocol.specs.declared.answers.Answer.{Answer}
use Rattle.lfm_protocol.specs.After.{same_link, same_handoff, releases, pushed, granted, found_posted, carrier_of, serves, take, once_cleared, receives, loaded, how_granted}
use Rattle.lfm_protocol.specs.Begin.{Stepped, goes_on, ends}
use Rattle.lfm_protocol.specs.Core.{Core}
use Rattle.lfm_protocol.specs.Points.{kind, target}
use Rattle.lfm_protocol.specs.Seats.{seat, link, wake}
use Rattle.lfm_protocol.specs.Step.{step_of, made}
use Rattle.lfm_laws.proofs.lawful.bounds.Leaving.{stepped_by, stepped}

-- The points from which a step can be refused as Busy, and the one before them

abbrev pub tries : Point → Bool
tries TryOwnerLoad = true
tries TryHandoffLoad = true
tries (TryHandoffExchange seen) = true
tries _ = false

-- the step is not refused and leads to none of these points
pub record IsPlain (m : Stepped) : Type 0 where
  pub untried : tries m.seat.point ≡ false
  pub made_so : (why : Why) → m.turn ≢ Refused why

plain_if : (b : Bool) (m n : Stepped) → IsPlain m → IsPlain n → IsPlain (if b then m else n)
plain_if true m n first second = first
plain_if false m n first second = second

plain_goes : (x : SeatState) (p : Point) → tries p ≡ false → IsPlain (goes_on x p)
plain_goes x p other = record { untried = other; made_so = λ why e. cc }

plain_ends : (x : SeatState) (answer : Answer) → IsPlain (ends x answer)
plain_ends x answer = record { untried = refl; made_so = λ why e. cc }

untried_if : (b : Bool) (p q : Point) → tries p ≡ false → tries q ≡ false → tries (if b then p else q) ≡ false
untried_if true p q first second = first
untried_if false p q first second = second

plain_either : (x : SeatState) (b : Bool) (p q : Point) → tries p ≡ false → tries q ≡ false → IsPlain (goes_on x (if b then p else q))
plain_either x b p q first second = plain_goes x _ (untried_if b p q first second)

plain_releases : (x : SeatState) (releaser : Releaser) (answer : Unlocked) → IsPlain (releases x releaser answer)
plain_releases x Unlocker answer = record { untried = refl; made_so = λ why e. cc }
plain_releases x Waiter answer = record { untried = refl; made_so = λ why e. cc }

plain_pushed : (x : SeatState) (pusher : Pusher) → IsPlain (pushed x pusher)
plain_pushed x Pusher.Locker = record { untried = refl; made_so = λ why e. cc }
plain_pushed x (Pusher.Sender t) = record { untried = refl; made_so = λ why e. cc }

plain_granted : (x : SeatState) (carrier : Carrier) (r : Record) → IsPlain (granted x carrier r)
plain_granted x Carrier.Locker r = record { untried = refl; made_so = λ why e. cc }
plain_granted x (Carrier.Releaser releaser) r = plain_releases x releaser _
plain_granted x (Carrier.Reclaimer releaser) r = plain_releases x releaser _
plain_granted x Carrier.Sender r = record { untried = refl; made_so = λ why e. cc }

plain_receives : (x : SeatState) (sleeper : Sleeper) (w : Wake) → IsPlain (receives x sleeper w)
plain_receives x sleeper (Wake.Grant stamp) = record { untried = refl; made_so = λ why e. cc }
plain_receives x sleeper _ = record { untried = refl; made_so = λ why e. cc }

untried_found_posted : (pusher : Pusher) (found : Handoff) → tries (found_posted pusher found) ≡ false
untried_found_posted Pusher.Locker found = refl
untried_found_posted (Pusher.Sender t) found = refl

untried_serves : (carrier : Carrier) (s : ℕ) (r : Record) → tries (serves carrier s r) ≡ false
untried_serves Carrier.Locker s r =
    untried_if (nat_eq r.seat s) (EnterOwnerStore Entrant.Locker (How.Queued r.stamp)) (GrantWakeStore Carrier.Locker r) refl refl
untried_serves (Carrier.Releaser releaser) s r = refl
untried_serves (Carrier.Reclaimer releaser) s r = refl
untried_serves Carrier.Sender s r = refl

untried_take : (carrier : Carrier) (s : ℕ) (first : Option Record) → tries (take carrier s first) ≡ false
untried_take carrier s None = refl
untried_take carrier s (Some r) = untried_serves carrier s r

untried_cleared : (carrier : Carrier) (head : ℕ) → tries (once_cleared carrier head) ≡ false
untried_cleared Carrier.Locker head = refl
untried_cleared (Carrier.Releaser releaser) head =
    untried_if (nat_eq head 0) (ReleaseHandoffStore releaser) (TakeLinkLoad (Carrier.Releaser releaser) head) refl refl
untried_cleared (Carrier.Reclaimer releaser) head = refl
untried_cleared Carrier.Sender head = refl

-- the points whose steps are all of this kind
abbrev pub is_plain : Point → Bool
is_plain Rest = false
is_plain (Asleep sleeper) = false
is_plain TryCountExchange = false
is_plain TryOwnerLoad = false
is_plain TryHandoffLoad = false
is_plain (TryHandoffExchange seen) = false
is_plain (SendWakeExchange t) = false
is_plain _ = true

pub plain_at : (c : Core) (s : ℕ) (p : Point) → (seat c.seats s).point ≡ p → is_plain p ≡ true → IsPlain (stepped c s)
plain_at c s Rest at plain = absurd (cc)
plain_at c s (Asleep sleeper) at plain = absurd (cc)
plain_at c s TryCountExchange at plain = absurd (cc)
plain_at c s TryOwnerLoad at plain = absurd (cc)
plain_at c s TryHandoffLoad at plain = absurd (cc)
plain_at c s (TryHandoffExchange seen) at plain = absurd (cc)
plain_at c s (SendWakeExchange t) at plain = absurd (cc)
plain_at c s LockCountAdd at plain =
    rw (at, at) (plain_either (seat c.seats s) (nat_eq c.count 0) (EnterOwnerStore Entrant.Locker How.Free) LockOwnerLoad refl refl)
plain_at c s LockOwnerLoad at plain =
    rw (at, at) (plain_either (seat c.seats s) (nat_eq c.owner s) LockCountSubtract (PushLoad Pusher.Locker) refl refl)
plain_at c s LockCountSubtract at plain = rw (at, at) (record { untried = refl; made_so = λ why e. cc })
plain_at c s TryCountAdd at plain = rw (at, at) (plain_goes (seat c.seats s) (EnterOwnerStore Entrant.Trier How.Free) refl)
plain_at c s (SendCountAdd t) at plain =
    rw (at, at) (plain_either (seat c.seats s) (nat_eq c.count 0) (SendWakeStore t) (PushLoad (Pusher.Sender t)) refl refl)
plain_at c s (SendPushRecheck t seen) at plain =
    rw (at, at) (plain_if (nat_eq c.push.next 0) (ends (seat c.seats s) Answer.Sent) (goes_on (seat c.seats s) (PushedHandoffExchange (Pusher.Sender t) seen))
    (plain_ends (seat c.seats s) Answer.Sent) (plain_goes (seat c.seats s) (PushedHandoffExchange (Pusher.Sender t) seen) refl))
plain_at c s (SendWakeStore t) at plain = rw (at, at) (record { untried = refl; made_so = λ why e. cc })
plain_at c s (PushLoad pusher) at plain = rw (at, at) (plain_goes (seat c.seats s) (LinkStore pusher c.push) refl)
plain_at c s (LinkStore pusher seen) at plain = rw (at, at) (plain_goes (seat c.seats s) (PushExchange pusher seen) refl)
plain_at c s (PushExchange pusher seen) at plain =
    rw (at, at) (plain_either (seat c.seats s) (same_link c.push seen) (PushedHandoffLoad pusher) (LinkStore pusher c.push) refl refl)
plain_at c s (PushedHandoffLoad pusher) at plain =
    rw (at, at) (plain_if (nat_eq c.handoff.seat 0) (pushed (seat c.seats s) pusher) (goes_on (seat c.seats s) (found_posted pusher c.handoff)) (plain_pushed (seat c.seats s) pusher)
    (plain_goes (seat c.seats s) (found_posted pusher c.handoff) (untried_found_posted pusher c.handoff)))
plain_at c s (PushedHandoffExchange pusher seen) at plain =
    let next : Point = take (carrier_of pusher) s (oldest c.popped) in
    rw (at, at) (plain_if (same_handoff c.handoff seen) (goes_on (seat c.seats s) next) (pushed (seat c.seats s) pusher)
    (plain_goes (seat c.seats s) next (untried_take (carrier_of pusher) s (oldest c.popped))) (plain_pushed (seat c.seats s) pusher))
plain_at c s (ReleaseOwnerStore releaser) at plain = rw (at, at) (record { untried = refl; made_so = λ why e. cc })
plain_at c s (ReleaseCountSubtract releaser) at plain =
    let next : Point = take (Carrier.Releaser releaser) s (oldest c.popped) in
    rw (at, at) (plain_if (nat_eq c.count 1) (releases (seat c.seats s) releaser Unlocked.Free) (goes_on (seat c.seats s) next) (plain_releases (seat c.seats s) releaser Unlocked.Free)
    (plain_goes (seat c.seats s) next (untried_take (Carrier.Releaser releaser) s (oldest c.popped))))
plain_at c s (ReleaseHandoffStore releaser) at plain = rw (at, at) (record { untried = refl; made_so = λ why e. cc })
plain_at c s (ReleasePushRecheck releaser) at plain =
    rw (at, at) (plain_if (nat_eq c.push.next 0) (releases (seat c.seats s) releaser Unlocked.Posted) (goes_on (seat c.seats s) (ReleaseHandoffExchange releaser))
    (plain_releases (seat c.seats s) releaser Unlocked.Posted) (plain_goes (seat c.seats s) (ReleaseHandoffExchange releaser) refl))
plain_at c s (ReleaseHandoffExchange releaser) at plain =
    let next : Point = take (Carrier.Reclaimer releaser) s (oldest c.popped) in
    rw (at, at) (plain_if (same_handoff c.handoff (record { seat = s; post = (seat c.seats s).posts })) (goes_on (seat c.seats s) next)
    (releases (seat c.seats s) releaser Unlocked.TakenOver) (plain_goes (seat c.seats s) next (untried_take (Carrier.Reclaimer releaser) s (oldest c.popped)))
    (plain_releases (seat c.seats s) releaser Unlocked.TakenOver))
plain_at c s (WaitWakeStore released) at plain = rw (at, at) (record { untried = refl; made_so = λ why e. cc })
plain_at c s (TakeClearHead carrier) at plain =
    rw (at, at) (plain_goes (seat c.seats s) (once_cleared carrier c.push.next) (untried_cleared carrier c.push.next))
plain_at c s (TakeLinkLoad carrier next) at plain =
    let found = link c.links next in
    rw (at, at) (plain_either (seat c.seats s) (nat_eq found.next 0) (serves carrier s (loaded next found)) (TakeLinkLoad carrier found.next)
    (untried_serves carrier s (loaded next found)) refl)
plain_at c s (GrantWakeStore carrier r) at plain = rw (at, at) (plain_granted (seat c.seats s) carrier r)
plain_at c s (EnterOwnerStore entrant how) at plain = rw (at, at) (record { untried = refl; made_so = λ why e. cc })
plain_at c s (ReceiveWakeLoad sleeper) at plain = rw (at, at) (plain_receives (seat c.seats s) sleeper (wake c.wakes s))
plain_at c s (ReceiveWakeStore stamp) at plain = rw (at, at) (plain_goes (seat c.seats s) (EnterOwnerStore Entrant.Receiver (how_granted stamp)) refl)

-- the turn of a step is the one of its seat
turn_by : (c : Core) (s t : ℕ) (k : Option Kind) → (step_of c s t k).turn ≡ (stepped_by c s t k).turn
turn_by c s t None = refl
turn_by c s t (Some Kind.CountExchange) = refl
turn_by c s t (Some Kind.CountAdd) = refl
turn_by c s t (Some Kind.CountSubtract) = refl
turn_by c s t (Some Kind.OwnerLoad) = refl
turn_by c s t (Some Kind.OwnerStore) = refl
turn_by c s t (Some Kind.PushLoad) = refl
turn_by c s t (Some Kind.PushExchange) = refl
turn_by c s t (Some Kind.ClearHead) = refl
turn_by c s t (Some Kind.LinkLoad) = refl
turn_by c s t (Some Kind.LinkStore) = refl
turn_by c s t (Some Kind.HandoffLoad) = refl
turn_by c s t (Some Kind.HandoffStore) = refl
turn_by c s t (Some Kind.HandoffExchange) = refl
turn_by c s t (Some Kind.WakeLoad) = refl
turn_by c s t (Some Kind.WakeStore) = refl
turn_by c s t (Some Kind.WakeExchange) = refl

pub turn_made : (c : Core) (s : ℕ) → (made c s).turn ≡ (stepped c s).turn
turn_made c s = turn_by c s (target (seat c.seats s).point s) (kind (seat c.seats s).point)
