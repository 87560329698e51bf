-- Numbers that are those of seats: each that is not apart from the queue, each whose point isn't Rest, and each that passes the
-- test of a number.
use Rattle.std.proofs.Common.{◌≡◌, ◌≢◌, ℕ, true, ◌+◌, ◌<◌, ◌≤◌, List, length, sym, ap, ◌∙◌, inl, inr, arith, tests}
use Rattle.std.proofs.lemmas.Bool.{and_from, lt-ltb}
use Rattle.lfm_protocol.specs.declared.points.Point.TheVariants.{Rest}
use Rattle.lfm_protocol.specs.declared.seats.SeatState.{SeatState}
use Rattle.lfm_protocol.specs.Core.{Core}
use Rattle.lfm_laws.specs.steady.Ghost.{apart, asks, queued, Ghost}
use Rattle.lfm_protocol.specs.Seats.{seat, is_seat, IsSeat}
use Rattle.lfm_laws.specs.steady.Steady.{Fits}
use Rattle.lfm_laws.proofs.steady.frames.Entries.{seat_or_absent}

pub seat_of_standing : (c : Core) (g : Ghost) (s : ℕ) → Fits c g → g.standing s ≢ apart → IsSeat c.seats s
seat_of_standing c g s fits stands =
    elim (seat_or_absent c.seats s) [
      | inl is ↦ is
      | inr none ↦ absurd (stands (rw none at (fits.each s).stands))
    ]

pub seat_of_asking : (c : Core) (g : Ghost) (s agent : ℕ) → Fits c g → g.standing s ≡ asks agent → IsSeat c.seats s
seat_of_asking c g s agent fits at = seat_of_standing c g s fits (λ e. let f : asks agent ≡ apart = sym at ∙ e in cc)

pub seat_of_queued : (c : Core) (g : Ghost) (s stamp : ℕ) → Fits c g → g.standing s ≡ queued stamp → IsSeat c.seats s
seat_of_queued c g s stamp fits at = seat_of_standing c g s fits (λ e. let f : queued stamp ≡ apart = sym at ∙ e in cc)

pub seat_of_point : (seats : List SeatState) (s : ℕ) → (seat seats s).point ≢ Rest → IsSeat seats s
seat_of_point seats s moved =
    elim (seat_or_absent seats s) [
      | inl is ↦ is
      | inr none ↦ absurd (moved (ap (λ x. x.point) none))
    ]

-- the record with a stamp in the queue belongs to a seat
pub seat_of_stamp : (c : Core) (g : Ghost) (stamp : ℕ) → Fits c g → g.popped < stamp → stamp ≤ g.pushed → IsSeat c.seats (g.pushed_at stamp)
seat_of_stamp c g stamp fits above within = seat_of_queued c g (g.pushed_at stamp) stamp fits (fits.stamps stamp above within).stands

-- the test of a number passes exactly if a seat has it
pub seat_of_test : (seats : List SeatState) (s : ℕ) → is_seat seats s ≡ true → IsSeat seats s
seat_of_test seats s is =
    record { above = search (tests, arith, is); within = search (tests, arith, is) }

pub test_of_seat : (seats : List SeatState) (s : ℕ) → IsSeat seats s → is_seat seats s ≡ true
test_of_seat seats s is = and_from _ _ (lt-ltb 0 s is.above) (lt-ltb s (length seats + 1) (let most = is.within in omega (arith, most)))
