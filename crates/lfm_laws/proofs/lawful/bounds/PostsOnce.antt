-- A call posts at most once: only a release reaches a post, and after it no point leads to another.
use Rattle.std.proofs.Common.{◌≡◌, ℕ, Bool, true, false, ◌+◌, ◌≤◌, Option, Some, None, refl, arith, nat_eq, if◌then◌else◌}
use Rattle.lfm_model.specs.declared.answers.Unlocked.{Unlocked}
use Rattle.lfm_protocol.specs.declared.points.Carrier.{Carrier}
use Rattle.lfm_protocol.specs.declared.points.Point.{Point}
use Rattle.lfm_protocol.specs.declared.points.Point.TheVariants.{LockCountAdd, LockOwnerLoad, TryCountExchange, TryOwnerLoad, TryHandoffLoad, TryHandoffExchange, TryCountAdd, SendWakeExchange, SendCountAdd, SendPushRecheck, LinkStore, PushExchange, PushedHandoffLoad, PushedHandoffExchange, ReleaseOwnerStore, ReleaseCountSubtract, ReleaseHandoffStore, ReleasePushRecheck, ReleaseHandoffExchange, TakeClearHead, TakeLinkLoad, GrantWakeStore, ReceiveWakeLoad}
use Rattle.lfm_protocol.specs.declared.points.Pusher.{Pusher}
use Rattle.lfm_protocol.specs.declared.points.Releaser.{Releaser}
use Rattle.lfm_protocol.specs.declared.points.Releaser.TheVariants.{Unlocker, Waiter}
use Rattle.lfm_protocol.specs.declared.points.Sleeper.{Sleeper}
use Rattle.lfm_protocol.specs.declared.seats.SeatState.{SeatState}
use Rattle.lfm_words.specs.declared.handoffs.Handoff.{Handoff}
use Rattle.lfm_words.specs.declared.pop_lists.Record.{Record}
use Rattle.lfm_words.specs.declared.wakes.Wake.{Wake}
use Rattle.lfm_words.specs.declared.wakes.Wake.TheVariants.{Grant}
use Rattle.lfm_words.specs.Popped.{oldest}
use Rattle.lfm_protocol.specs.After.{same_link, same_handoff, busy, loaded, releases, pushed, granted, serves, take, carrier_of, receives, claims, found_posted}
use Rattle.lfm_protocol.specs.Begin.{Stepped, goes_on}
use Rattle.lfm_protocol.specs.Core.{Core}
use Rattle.lfm_laws.specs.laws.Laws.{post_weight, CallsPostOnce}
use Rattle.lfm_protocol.specs.Seats.{seat, link, wake}
use Rattle.lfm_laws.proofs.lawful.bounds.CallWeights.{Falls, weight_le}
use Rattle.lfm_laws.proofs.lawful.bounds.Leaving.{stepped}

-- how many posts a call at this point can still make
abbrev pub posts_left : Point → ℕ
posts_left (ReleaseOwnerStore releaser) = 1
posts_left (ReleaseCountSubtract releaser) = 1
posts_left (TakeClearHead (Carrier.Releaser releaser)) = 1
posts_left (ReleaseHandoffStore releaser) = 1
posts_left _ = 0

abbrev pub posts_left_among : ℕ → ℕ → Point → ℕ
posts_left_among seats room p = posts_left p

posts_left-le : (p : Point) → posts_left p ≤ 1
posts_left-le (TakeClearHead Carrier.Locker) = omega arith
posts_left-le (TakeClearHead (Carrier.Releaser releaser)) = omega arith
posts_left-le (TakeClearHead (Carrier.Reclaimer releaser)) = omega arith
posts_left-le (TakeClearHead Carrier.Sender) = omega arith
posts_left-le _ = omega arith

-- Points that lead to no post

of_points : (b : Bool) (p q : Point) → posts_left p ≡ 0 → posts_left q ≡ 0 → posts_left (if b then p else q) ≡ 0
of_points true p q first second = first
of_points false p q first second = second

of_turns : (b : Bool) (x y : Stepped) → posts_left x.seat.point ≡ 0 → posts_left y.seat.point ≡ 0 → posts_left (if b then x else y).seat.point ≡ 0
of_turns true x y first second = first
of_turns false x y first second = second

of_release : (x : SeatState) (releaser : Releaser) (answer : Unlocked) → posts_left (releases x releaser answer).seat.point ≡ 0
of_release x Unlocker answer = refl
of_release x Waiter answer = refl

of_pushed : (x : SeatState) (pusher : Pusher) → posts_left (pushed x pusher).seat.point ≡ 0
of_pushed x Pusher.Locker = refl
of_pushed x (Pusher.Sender t) = refl

of_granted : (x : SeatState) (carrier : Carrier) (r : Record) → posts_left (granted x carrier r).seat.point ≡ 0
of_granted x Carrier.Locker r = refl
of_granted x (Carrier.Releaser releaser) r = of_release x releaser _
of_granted x (Carrier.Reclaimer releaser) r = of_release x releaser _
of_granted x Carrier.Sender r = refl

of_serves : (carrier : Carrier) (s : ℕ) (r : Record) → posts_left (serves carrier s r) ≡ 0
of_serves Carrier.Locker s r = of_points (nat_eq r.seat s) _ _ refl refl
of_serves (Carrier.Releaser releaser) s r = refl
of_serves (Carrier.Reclaimer releaser) s r = refl
of_serves Carrier.Sender s r = refl

of_pusher_take : (pusher : Pusher) (s : ℕ) (r : Option Record) → posts_left (take (carrier_of pusher) s r) ≡ 0
of_pusher_take Pusher.Locker s None = refl
of_pusher_take Pusher.Locker s (Some r) = of_serves Carrier.Locker s r
of_pusher_take (Pusher.Sender t) s None = refl
of_pusher_take (Pusher.Sender t) s (Some r) = refl

of_retake : (releaser : Releaser) (s : ℕ) (r : Option Record) → posts_left (take (Carrier.Reclaimer releaser) s r) ≡ 0
of_retake releaser s None = refl
of_retake releaser s (Some r) = refl

of_tried : (x : SeatState) (succeeded : Bool) → posts_left (if succeeded then goes_on x TryCountAdd else busy x).seat.point ≡ 0
of_tried x true = refl
of_tried x false = refl

of_found_posted : (pusher : Pusher) (n : Handoff) → posts_left (found_posted pusher n) ≡ 0
of_found_posted Pusher.Locker n = refl
of_found_posted (Pusher.Sender t) n = refl

of_received : (x : SeatState) (sleeper : Sleeper) (w : Wake) → posts_left (receives x sleeper w).seat.point ≡ 0
of_received x sleeper (Grant stamp) = refl
of_received x sleeper _ = refl

of_claims : (x : SeatState) (t : ℕ) (w : Wake) → posts_left (claims x t w).seat.point ≡ 0
of_claims x t Wake.Waiting = refl
of_claims x t _ = refl

-- a point that leads to no post
pub none_left : (c : Core) (s : ℕ) (p : Point) → (seat c.seats s).point ≡ p → posts_left p ≡ 0 → posts_left (stepped c s).seat.point ≡ 0
none_left c s (ReleaseOwnerStore releaser) at none = absurd (omega (arith, none))
none_left c s (ReleaseCountSubtract releaser) at none = absurd (omega (arith, none))
none_left c s (ReleaseHandoffStore releaser) at none = absurd (omega (arith, none))
none_left c s (TakeClearHead (Carrier.Releaser releaser)) at none = absurd (omega (arith, none))
none_left c s (TakeClearHead Carrier.Locker) at none = rw (at, at) refl
none_left c s (TakeClearHead (Carrier.Reclaimer releaser)) at none = rw (at, at) refl
none_left c s (TakeClearHead Carrier.Sender) at none = rw (at, at) refl
none_left c s LockCountAdd at none = rw (at, at) (of_points (nat_eq c.count 0) _ _ refl refl)
none_left c s LockOwnerLoad at none = rw (at, at) (of_points (nat_eq c.owner s) _ _ refl refl)
none_left c s TryCountExchange at none = rw (at, at) (of_points (nat_eq c.count 0) _ _ refl refl)
none_left c s TryOwnerLoad at none = rw (at, at) (of_turns (nat_eq c.owner s) _ _ refl refl)
none_left c s TryHandoffLoad at none = rw (at, at) (of_turns (nat_eq c.handoff.seat 0) _ _ refl refl)
none_left c s (TryHandoffExchange seen) at none = rw (at, at) (of_tried (seat c.seats s) (same_handoff c.handoff seen))
none_left c s (SendWakeExchange t) at none = rw (at, at) (of_claims (seat c.seats s) t (wake c.wakes t))
none_left c s (SendCountAdd t) at none = rw (at, at) (of_points (nat_eq c.count 0) _ _ refl refl)
none_left c s (SendPushRecheck t seen) at none = rw (at, at) (of_turns (nat_eq c.push.next 0) _ _ refl refl)
none_left c s (PushExchange pusher seen) at none =
    rw (at, at) (of_points (same_link c.push seen) (PushedHandoffLoad pusher) (LinkStore pusher c.push) refl refl)
none_left c s (PushedHandoffLoad pusher) at none = rw (at, at) (of_turns (nat_eq c.handoff.seat 0) _ _ (of_pushed (seat c.seats s) pusher) (of_found_posted pusher c.handoff))
none_left c s (PushedHandoffExchange pusher seen) at none =
    rw (at, at) (of_turns _ _ _ (of_pusher_take pusher s (oldest c.popped)) (of_pushed (seat c.seats s) pusher))
none_left c s (ReleasePushRecheck releaser) at none = rw (at, at) (of_turns (nat_eq c.push.next 0) _ _ (of_release (seat c.seats s) releaser _) refl)
none_left c s (ReleaseHandoffExchange releaser) at none =
    rw (at, at) (of_turns _ _ _ (of_retake releaser s (oldest c.popped)) (of_release (seat c.seats s) releaser _))
none_left c s (TakeLinkLoad carrier next) at none =
    rw (at, at)
    (of_points (nat_eq (link c.links next).next 0) (serves carrier s (loaded next (link c.links next))) (TakeLinkLoad carrier (link c.links next).next)
    (of_serves carrier s (loaded next (link c.links next))) refl)
none_left c s (GrantWakeStore carrier r) at none = rw (at, at) (of_granted (seat c.seats s) carrier r)
none_left c s (ReceiveWakeLoad sleeper) at none = rw (at, at) (of_received (seat c.seats s) sleeper (wake c.wakes s))
none_left c s _ at none = rw (at, at) refl

posts_fall : (c : Core) (s : ℕ) (p : Point) → (seat c.seats s).point ≡ p → post_weight p + posts_left (stepped c s).seat.point ≤ posts_left p
posts_fall c s (ReleaseOwnerStore releaser) at = let one = posts_left-le (stepped c s).seat.point in omega (arith, one)
posts_fall c s (ReleaseCountSubtract releaser) at = let one = posts_left-le (stepped c s).seat.point in omega (arith, one)
posts_fall c s (TakeClearHead (Carrier.Releaser releaser)) at = let one = posts_left-le (stepped c s).seat.point in omega (arith, one)
posts_fall c s (TakeClearHead Carrier.Locker) at = let none = none_left c s _ at refl in omega (arith, none)
posts_fall c s (TakeClearHead (Carrier.Reclaimer releaser)) at = let none = none_left c s _ at refl in omega (arith, none)
posts_fall c s (TakeClearHead Carrier.Sender) at = let none = none_left c s _ at refl in omega (arith, none)
posts_fall c s (ReleaseHandoffStore releaser) at = rw (at, at) (omega arith)
posts_fall c s _ at = let none = none_left c s _ at refl in omega (arith, none)

falls : Falls post_weight posts_left_among (λ p. true)
falls =
    record {
      unread = λ seats room room' p walks. refl;
      lower = λ c g s fits inside within. (refl, posts_fall c s (seat c.seats s).point refl);
    }

pub calls_post_once : CallsPostOnce
calls_post_once c s events is =
    let most = weight_le post_weight posts_left_among (λ p. true) falls c s events is refl in
    let one = posts_left-le (seat c.seats s).point in
    omega (arith, most, one)
