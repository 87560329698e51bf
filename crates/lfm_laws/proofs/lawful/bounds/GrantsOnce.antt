-- A call grants at most once: after its grant no point leads to another.
use Rattle.std.proofs.Common.{◌≡◌, ℕ, true, ◌+◌, ◌≤◌, nat_eq, refl, arith}
use Rattle.std.proofs.lemmas.Bool.{false≢true}
use Rattle.lfm_protocol.specs.declared.points.Point.{Point}
use Rattle.lfm_protocol.specs.declared.points.Point.TheVariants.{Rest, Asleep, LockCountSubtract, TryCountExchange, TryOwnerLoad, TryHandoffLoad, TryHandoffExchange, TryCountAdd, SendWakeStore, GrantWakeStore, WaitWakeStore, EnterOwnerStore, ReceiveWakeLoad, ReceiveWakeStore}
use Rattle.lfm_protocol.specs.After.{same_handoff}
use Rattle.lfm_protocol.specs.Core.{Core}
use Rattle.lfm_protocol.specs.Seats.{seat, wake}
use Rattle.lfm_laws.specs.laws.Grants.{grant_weight, CallsGrantOnce}
use Rattle.lfm_laws.specs.laws.Schedules.{is_call}
use Rattle.lfm_laws.proofs.lawful.bounds.Branches.{of_points, of_turns, of_granted, of_received}
use Rattle.lfm_laws.proofs.lawful.bounds.CallWeights.{Falls, weight_le}
use Rattle.lfm_laws.proofs.lawful.bounds.Leaving.{stepped}

-- how many grants a call at this point can still store
abbrev pub grants_left : Point → ℕ
grants_left Rest = 0
grants_left (Asleep sleeper) = 0
grants_left LockCountSubtract = 0
grants_left TryCountExchange = 0
grants_left TryOwnerLoad = 0
grants_left TryHandoffLoad = 0
grants_left (TryHandoffExchange seen) = 0
grants_left TryCountAdd = 0
grants_left (WaitWakeStore released) = 0
grants_left (EnterOwnerStore entrant how) = 0
grants_left (ReceiveWakeLoad sleeper) = 0
grants_left (ReceiveWakeStore stamp) = 0
grants_left _ = 1

abbrev pub grants_left_among : ℕ → ℕ → Point → ℕ
grants_left_among seats room p = grants_left p

grants_left-le : (p : Point) → grants_left p ≤ 1
grants_left-le Rest = omega arith
grants_left-le (Asleep sleeper) = omega arith
grants_left-le LockCountSubtract = omega arith
grants_left-le TryCountExchange = omega arith
grants_left-le TryOwnerLoad = omega arith
grants_left-le TryHandoffLoad = omega arith
grants_left-le (TryHandoffExchange seen) = omega arith
grants_left-le TryCountAdd = omega arith
grants_left-le (WaitWakeStore released) = omega arith
grants_left-le (EnterOwnerStore entrant how) = omega arith
grants_left-le (ReceiveWakeLoad sleeper) = omega arith
grants_left-le (ReceiveWakeStore stamp) = omega arith
grants_left-le _ = omega arith

-- a point that leads to no grant
abbrev GrantsNoMore : Point → Type 0
GrantsNoMore p = grants_left p ≡ 0

none_after : (c : Core) (s weight : ℕ) → GrantsNoMore (stepped c s).seat.point → weight + grants_left (stepped c s).seat.point ≤ weight
none_after c s weight none = omega (arith, none)

grants_fall : (c : Core) (s : ℕ) (p : Point) → (seat c.seats s).point ≡ p → is_call p ≡ true → grant_weight p + grants_left (stepped c s).seat.point ≤ grants_left p
grants_fall c s Rest at inside = absurd (false≢true inside)
grants_fall c s (Asleep sleeper) at inside = absurd (false≢true inside)
grants_fall c s (GrantWakeStore carrier r) at inside =
    none_after c s 1 (rw (at, at) (of_granted GrantsNoMore (seat c.seats s) carrier r refl (λ sleeper. refl) (λ answer. refl)))
grants_fall c s (SendWakeStore t) at inside = none_after c s 1 (rw (at, at) refl)
grants_fall c s LockCountSubtract at inside = none_after c s 0 (rw (at, at) refl)
grants_fall c s TryCountExchange at inside = none_after c s 0 (rw (at, at) (of_points GrantsNoMore (nat_eq c.count 0) _ _ refl refl))
grants_fall c s TryOwnerLoad at inside = none_after c s 0 (rw (at, at) (of_turns GrantsNoMore (nat_eq c.owner s) _ _ refl refl))
grants_fall c s TryHandoffLoad at inside = none_after c s 0 (rw (at, at) (of_turns GrantsNoMore (nat_eq c.handoff.seat 0) _ _ refl refl))
grants_fall c s (TryHandoffExchange seen) at inside =
    none_after c s 0 (rw (at, at) (of_turns GrantsNoMore (same_handoff c.handoff seen) _ _ refl refl))
grants_fall c s TryCountAdd at inside = none_after c s 0 (rw (at, at) refl)
grants_fall c s (WaitWakeStore released) at inside = none_after c s 0 (rw (at, at) refl)
grants_fall c s (EnterOwnerStore entrant how) at inside = none_after c s 0 (rw (at, at) refl)
grants_fall c s (ReceiveWakeLoad sleeper) at inside =
    none_after c s 0 (rw (at, at) (of_received GrantsNoMore (seat c.seats s) sleeper (wake c.wakes s) (λ stamp. refl) refl))
grants_fall c s (ReceiveWakeStore stamp) at inside = none_after c s 0 (rw (at, at) refl)
grants_fall c s _ at inside = let one = grants_left-le (stepped c s).seat.point in omega (arith, one)

falls : Falls grant_weight grants_left_among (λ p. true)
falls =
    record {
      unread = λ seats room room' p walks. refl;
      lower = λ c g s fits inside among. (refl, grants_fall c s (seat c.seats s).point refl inside);
    }

pub calls_grant_once : CallsGrantOnce
calls_grant_once c s events steady =
    let most = weight_le grant_weight grants_left_among (λ p. true) falls c s events steady refl in
    let one = grants_left-le (seat c.seats s).point in
    omega (arith, most, one)
