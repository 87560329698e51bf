use Rattle.std.proofs.Common.{◌≡◌, ◌≢◌, ◌<◌, ℕ}
use mathlib.Core.Option.{some}
use lib.ListN.{get_elem?}
use Rattle.lfm_mutex.proofs.close.index_of_seat_1.Given as goal

abbrev pub invariant-loop-seat : goal.invariant-loop-seat
invariant-loop-seat g l = (l.index ≡ l.seat-index) × ((j : ℕ) (s : _) → j < l.seat-index → get_elem? l.seats.items j ≡ some s → (g.P.Holder.seat_of s).table_seat.number ≢ 1)
