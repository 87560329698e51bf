use Rattle.std.proofs.Common.{◌≡◌, ◌≢◌, ◌<◌, ℕ, true, false}
use mathlib.Core.Option.{some}
use lib.ListN.{get_elem?}
use Rattle.lfm_mutex.specs.calls.Sight.{sight}
use Rattle.lfm_mutex.specs.Close.{Has, Idle}
use Rattle.lfm_mutex.proofs.close.missing_at.Given as goal

abbrev pub invariant-loop-seat : goal.invariant-loop-seat
invariant-loop-seat g l = record {
  none : l.found ≡ false → (j : ℕ) (s : _) → j < l.seat-index → get_elem? l.seats.items j ≡ some s → (g.P.Holder.seat_of s).table_seat.number ≢ l.number;
  one : l.found ≡ true → Has (λ p. sight (g.P.Holder.seat_of p)) l.seats.items l.number;
  idle : (j : ℕ) (s : _) → j < l.seat-index → get_elem? l.seats.items j ≡ some s → (g.P.Holder.seat_of s).table_seat.number ≡ l.number → Idle (sight (g.P.Holder.seat_of s));
}
