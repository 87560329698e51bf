use Rattle.std.proofs.Common.{◌≡◌, ◌≤◌, ℕ, length, vec_len, vec_capacity}
use mathlib.Core.Option.{some}
use lib.ListN.{get_elem?}
use Rattle.lfm_plain_condvar.specs.Belongs.{IsNewSeat}
use Rattle.lfm_plain_condvar.proofs.open.with_wakers.Given as goal

abbrev pub invariant-wrapped : goal.invariant-wrapped
invariant-wrapped l = record {
  size : (vec_len l.plain_seats ≡ length l.yielded) × (vec_len l.fn.seats ≤ vec_capacity l.plain_seats);
  wraps : (j : ℕ) (p : _) → get_elem? l.plain_seats.items j ≡ some p → (get_elem? l.fn.seats.items j ≡ some p.seat) × IsNewSeat p p.seat l.parkers;
}
