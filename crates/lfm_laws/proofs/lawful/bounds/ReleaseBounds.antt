-- With N seats, an unlock makes at most N + 7 steps, and a start_wait one more, whatever the others do in between.
use Rattle.std.proofs.Common.{◌≡◌, ℕ, false, ◌+◌, ◌≤◌, List, length, nat_eq, nat_lt, refl, sym, inl, inr, arith}
use Rattle.std.proofs.lemmas.Bool.{cases_Bool, false≢true}
use Rattle.lfm_protocol.specs.declared.answers.Call.{Call}
use Rattle.lfm_protocol.specs.declared.answers.Call.TheVariants.{Unlock, StartWait}
use Rattle.lfm_protocol.specs.declared.limits.Limits.{Limits}
use Rattle.lfm_protocol.specs.declared.points.Point.{Point}
use Rattle.lfm_protocol.specs.declared.points.Point.TheVariants.{Rest, Asleep}
use Rattle.lfm_protocol.specs.declared.seats.SeatState.{SeatState}
use Rattle.lfm_protocol.specs.Begin as Begin
use Rattle.lfm_protocol.specs.Begin.{Stepped, begin_unlock, begin_wait}
use Rattle.lfm_protocol.specs.Core.{Core, limits}
use Rattle.lfm_laws.specs.laws.Laws.{UnlocksAreBounded, StartWaitsAreBounded}
use Rattle.lfm_laws.specs.laws.Schedules.{Event, is_call, steps_of_call}
use Rattle.lfm_laws.specs.steady.Steady.{Steady}
use Rattle.lfm_protocol.specs.Seats.{seat, is_seat}
use Rattle.lfm_protocol.specs.Step.{begin}
use Rattle.lfm_laws.proofs.lawful.bounds.CallWeights.{room_left, weight_le}
use Rattle.lfm_laws.proofs.steady.frames.Entries.{seat-with_same}
use Rattle.lfm_laws.proofs.lawful.runs.Reached.{begin_keeps}
use Rattle.lfm_laws.proofs.lawful.bounds.ReleaseFalls.{among_release, steps_left, Within, steps_fall, of_turns}
use Rattle.lfm_laws.proofs.steady.frames.Seated.{seat_of_test}
use Rattle.lfm_laws.proofs.steady.frames.SameSeats.{seats-begin}

-- If no call is open, no steps are left

at_rest : (seats room steps : ℕ) (p : Point) → is_call p ≡ false → Within seats room steps p
at_rest seats room steps Rest closed = (refl, omega arith)
at_rest seats room steps (Asleep sleeper) closed = (refl, omega arith)
at_rest seats room steps _ closed = absurd (false≢true (sym closed))

-- The points at which an unlock and a start_wait begin

unlock_awake : (seats room : ℕ) (x : SeatState) → Within seats room (seats + 7) x.point → Within seats room (seats + 7) (begin_unlock x).seat.point
unlock_awake seats room x here =
    of_turns seats room (seats + 7) (nat_eq x.depth 0) _ _ here (of_turns seats room (seats + 7) (nat_eq x.depth 1) _ _ (refl, omega arith) here)

wait_awake : (seats room : ℕ) (x : SeatState) (budget : ℕ) → Within seats room (seats + 8) x.point
    → Within seats room (seats + 8) (begin_wait x budget).seat.point
wait_awake seats room x budget here =
    of_turns seats room (seats + 8) (nat_eq x.depth 0) _ _ here
    (of_turns seats room (seats + 8) (nat_lt 1 x.depth) _ _ here (of_turns seats room (seats + 8) (nat_lt x.takes budget) _ _ (refl, omega arith) here))

unlock_begun : (seats room : ℕ) (x : SeatState) (l : Limits) (p : Point) → is_call p ≡ false → Within seats room (seats + 7) x.point
    → Within seats room (seats + 7) (Begin.begin_at x l Unlock p).seat.point
unlock_begun seats room x l Rest closed here = unlock_awake seats room x here
unlock_begun seats room x l (Asleep sleeper) closed here = here
unlock_begun seats room x l _ closed here = here

wait_begun : (seats room : ℕ) (x : SeatState) (l : Limits) (p : Point) → is_call p ≡ false → Within seats room (seats + 8) x.point
    → Within seats room (seats + 8) (Begin.begin_at x l StartWait p).seat.point
wait_begun seats room x l Rest closed here = wait_awake seats room x l.budget here
wait_begun seats room x l (Asleep sleeper) closed here = here
wait_begun seats room x l _ closed here = here

-- after the start of a call a seat has the new state; a number that no seat has keeps the old one
begun : (c : Core) (s seats room steps : ℕ) (call : Call) → Within seats room steps (seat c.seats s).point
    → Within seats room steps (Begin.begin (seat c.seats s) (limits c) call).seat.point → Within seats room steps (seat (begin c s call).core.seats s).point
begun c s seats room steps call before after =
    elim (cases_Bool (is_seat c.seats s)) [
      | inl is ↦ rw (is, seat-with_same c.seats s (Begin.begin (seat c.seats s) (limits c) call).seat (seat_of_test c.seats s is)) after
      | inr none ↦ rw none before
    ]

-- The laws

bounded : (c : Core) (s more : ℕ) (call : Call) (events : List Event) → Steady c
    → Within (length (begin c s call).core.seats) (room_left (begin c s call).core) (length (begin c s call).core.seats + more) (seat (begin c s call).core.seats s).point
    → steps_of_call (begin c s call).core s events ≤ length c.seats + more
bounded c s more call events is within =
    let steady = is in
    let fits = begin_keeps c steady.ghost_state s call steady.fits in
    let most = weight_le (λ p. 1) steps_left among_release steps_fall (begin c s call).core s events (record { ghost_state = steady.ghost_state; fits = fits }) within.0 in
    let few = within.1 in
    let size = seats-begin c s call in
    omega (arith, most, few, size)

pub unlocks_are_bounded : UnlocksAreBounded
unlocks_are_bounded c s events is closed =
    bounded c s 7 Unlock events is
    (begun c s _ _ _ Unlock (at_rest _ _ _ (seat c.seats s).point closed)
    (unlock_begun _ _ (seat c.seats s) (limits c) (seat c.seats s).point closed (at_rest _ _ _ (seat c.seats s).point closed)))

pub start_waits_are_bounded : StartWaitsAreBounded
start_waits_are_bounded c s events is closed =
    bounded c s 8 StartWait events is
    (begun c s _ _ _ StartWait (at_rest _ _ _ (seat c.seats s).point closed)
    (wait_begun _ _ (seat c.seats s) (limits c) (seat c.seats s).point closed (at_rest _ _ _ (seat c.seats s).point closed)))
