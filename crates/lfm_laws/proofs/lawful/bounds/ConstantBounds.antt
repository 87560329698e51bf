-- A try_lock makes at most 6 steps and a receive at most 3: each own step leaves fewer, and no event of another seat
-- leaves more.
use Rattle.std.proofs.Common.{◌≡◌, ℕ, Bool, true, false, ◌+◌, ◌≤◌, List, [], ◌∷◌, nat_eq, nat_lt, refl, sym, arith}
use Rattle.std.proofs.lemmas.Bool.{false≢true}
use Rattle.lfm_protocol.specs.declared.answers.Call.{Call}
use Rattle.lfm_protocol.specs.declared.answers.Call.TheVariants.{TryLock, Receive}
use Rattle.lfm_protocol.specs.declared.limits.Limits.{Limits}
use Rattle.lfm_protocol.specs.declared.points.Point.{Point}
use Rattle.lfm_protocol.specs.declared.points.Point.TheVariants.{Rest, Asleep, TryCountExchange, TryOwnerLoad, TryHandoffLoad, TryHandoffExchange, TryCountAdd, EnterOwnerStore, ReceiveWakeLoad, ReceiveWakeStore}
use Rattle.lfm_protocol.specs.declared.seats.SeatState.{SeatState}
use Rattle.lfm_protocol.specs.After.{same_handoff}
use Rattle.lfm_protocol.specs.Begin as Begin
use Rattle.lfm_protocol.specs.Begin.{begin_entry}
use Rattle.lfm_protocol.specs.Core.{Core, limits}
use Rattle.lfm_protocol.specs.Seats.{seat, wake}
use Rattle.lfm_protocol.specs.Step.{begin}
use Rattle.lfm_laws.specs.laws.ConstantBounds.{TriesAreBounded, ReceivesAreBounded}
use Rattle.lfm_laws.specs.laws.Schedules.{Event, begins, is_call, steps_of_call}
use Rattle.lfm_laws.specs.steady.Steady.{Steady}
use Rattle.lfm_laws.proofs.lawful.bounds.Branches.{of_points, of_turns, of_received, of_begin}
use Rattle.lfm_laws.proofs.lawful.bounds.CallWeights.{Falls, weight_le}
use Rattle.lfm_laws.proofs.lawful.bounds.Leaving.{stepped}
use Rattle.lfm_laws.proofs.lawful.runs.Reached.{run_keeps}

-- an upper bound on the steps that a try_lock or a receive still makes at this point
abbrev pub try_steps_left : Point → ℕ
try_steps_left TryCountExchange = 6
try_steps_left TryOwnerLoad = 5
try_steps_left TryHandoffLoad = 4
try_steps_left (TryHandoffExchange seen) = 3
try_steps_left TryCountAdd = 2
try_steps_left (EnterOwnerStore entrant how) = 1
try_steps_left (ReceiveWakeLoad sleeper) = 3
try_steps_left (ReceiveWakeStore stamp) = 2
try_steps_left _ = 0

-- the points of these calls, and those without a call
abbrev pub among_tries : Point → Bool
among_tries Rest = true
among_tries (Asleep sleeper) = true
among_tries TryCountExchange = true
among_tries TryOwnerLoad = true
among_tries TryHandoffLoad = true
among_tries (TryHandoffExchange seen) = true
among_tries TryCountAdd = true
among_tries (EnterOwnerStore entrant how) = true
among_tries (ReceiveWakeLoad sleeper) = true
among_tries (ReceiveWakeStore stamp) = true
among_tries _ = false

abbrev pub try_steps_left_among : ℕ → ℕ → Point → ℕ
try_steps_left_among seats room p = try_steps_left p

-- one of these points, with at most this number of steps left
abbrev Within : ℕ → Point → Type 0
Within steps p = (among_tries p ≡ true) × (try_steps_left p ≤ steps)

-- Each own step leaves fewer

next_within : (c : Core) (s : ℕ) (p : Point) → (seat c.seats s).point ≡ p → is_call p ≡ true → among_tries p ≡ true
    → (among_tries (stepped c s).seat.point ≡ true) × (1 + try_steps_left (stepped c s).seat.point ≤ try_steps_left p)
next_within c s Rest at inside among = absurd (false≢true inside)
next_within c s (Asleep sleeper) at inside among = absurd (false≢true inside)
next_within c s TryCountExchange at inside among =
    let next : Within 5 (stepped c s).seat.point = rw (at, at) (of_points (Within 5) (nat_eq c.count 0) _ _ (refl, omega arith) (refl, omega arith)) in
    let few = next.1 in
    (next.0, omega (arith, few))
next_within c s TryOwnerLoad at inside among =
    let next : Within 4 (stepped c s).seat.point = rw (at, at) (of_turns (Within 4) (nat_eq c.owner s) _ _ (refl, omega arith) (refl, omega arith)) in
    let few = next.1 in
    (next.0, omega (arith, few))
next_within c s TryHandoffLoad at inside among =
    let next : Within 3 (stepped c s).seat.point = rw (at, at) (of_turns (Within 3) (nat_eq c.handoff.seat 0) _ _ (refl, omega arith) (refl, omega arith)) in
    let few = next.1 in
    (next.0, omega (arith, few))
next_within c s (TryHandoffExchange seen) at inside among =
    let next : Within 2 (stepped c s).seat.point = rw (at, at) (of_turns (Within 2) (same_handoff c.handoff seen) _ _ (refl, omega arith) (refl, omega arith)) in
    let few = next.1 in
    (next.0, omega (arith, few))
next_within c s TryCountAdd at inside among = rw (at, at) (refl, omega arith)
next_within c s (EnterOwnerStore entrant how) at inside among = rw (at, at) (refl, omega arith)
next_within c s (ReceiveWakeLoad sleeper) at inside among =
    let next : Within 2 (stepped c s).seat.point =
    rw (at, at) (of_received (Within 2) (seat c.seats s) sleeper (wake c.wakes s) (λ stamp. (refl, omega arith)) (refl, omega arith)) in
    let few = next.1 in
    (next.0, omega (arith, few))
next_within c s (ReceiveWakeStore stamp) at inside among = rw (at, at) (refl, omega arith)
next_within c s _ at inside among = absurd (false≢true among)

tries_fall : Falls (λ p. 1) try_steps_left_among among_tries
tries_fall =
    record {
      unread = λ seats room room' p walks. refl;
      lower = λ c g s fits inside among. next_within c s (seat c.seats s).point refl inside among;
    }

-- The points at which the calls begin

at_rest : (steps : ℕ) (p : Point) → is_call p ≡ false → Within steps p
at_rest steps Rest closed = (refl, omega arith)
at_rest steps (Asleep sleeper) closed = (refl, omega arith)
at_rest steps _ closed = absurd (false≢true (sym closed))

try_awake : (x : SeatState) (budget : ℕ) → Within 6 x.point → Within 6 (begin_entry x budget TryCountExchange).seat.point
try_awake x budget here =
    of_turns (Within 6) (nat_lt 65534 x.depth) _ _ here
    (of_turns (Within 6) (nat_eq x.depth 0) _ _ (of_turns (Within 6) (nat_lt x.takes budget) _ _ (refl, omega arith) here) (refl, omega arith))

try_begun : (x : SeatState) (bounds : Limits) (p : Point) → Within 6 x.point → Within 6 (Begin.begin_at x bounds TryLock p).seat.point
try_begun x bounds Rest here = try_awake x bounds.budget here
try_begun x bounds (Asleep sleeper) here = here
try_begun x bounds _ here = here

receive_begun : (x : SeatState) (bounds : Limits) (p : Point) → Within 3 x.point → Within 3 (Begin.begin_at x bounds Receive p).seat.point
receive_begun x bounds Rest here = here
receive_begun x bounds (Asleep sleeper) here = (refl, omega arith)
receive_begun x bounds _ here = here

-- The laws

bounded : (c : Core) (s steps : ℕ) (call : Call) (events : List Event) → Steady c → Within steps (seat (begin c s call).core.seats s).point
    → steps_of_call (begin c s call).core s events ≤ steps
bounded c s steps call events steady within =
    let most = weight_le (λ p. 1) try_steps_left_among among_tries tries_fall (begin c s call).core s events (run_keeps c (begins s call ∷ []) steady) within.0 in
    let few = within.1 in
    omega (arith, most, few)

pub tries_are_bounded : TriesAreBounded
tries_are_bounded c s events steady closed =
    let here = at_rest 6 (seat c.seats s).point closed in
    bounded c s 6 TryLock events steady (of_begin (Within 6) c s TryLock here (try_begun (seat c.seats s) (limits c) (seat c.seats s).point here))

pub receives_are_bounded : ReceivesAreBounded
receives_are_bounded c s events steady closed =
    let here = at_rest 3 (seat c.seats s).point closed in
    bounded c s 3 Receive events steady (of_begin (Within 3) c s Receive here (receive_begun (seat c.seats s) (limits c) (seat c.seats s).point here))
