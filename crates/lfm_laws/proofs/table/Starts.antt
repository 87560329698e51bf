-- At the start no seat has read a seat number.
use Rattle.std.proofs.Common.{◌≡◌, ℕ, zero, suc, replicate, refl, ap}
use Rattle.lfm_protocol.specs.declared.limits.Limits.{Limits}
use Rattle.lfm_protocol.specs.declared.points.Point.{Point}
use Rattle.lfm_protocol.specs.declared.points.Point.TheVariants.{Rest}
use Rattle.lfm_protocol.specs.Seats.{entry, seat, absent}
use Rattle.lfm_protocol.specs.Step.{start}
use Rattle.lfm_laws.specs.table.Words.{IsNarrow, AreNarrow}

absent_at : (n s : ℕ) → seat (replicate n absent) s ≡ absent
unfolding entry
absent_at n zero = refl
absent_at zero (suc s) = refl
absent_at (suc n) (suc zero) = refl
absent_at (suc n) (suc (suc s)) = absent_at n (suc s)

narrow_at : (p : Point) → p ≡ Rest → IsNarrow p
narrow_at p at = rw at tt

pub start_narrow : (l : Limits) → AreNarrow (start l).seats
start_narrow l s = narrow_at (seat (start l).seats s).point (ap (λ x. x.point) (absent_at l.seats s))
