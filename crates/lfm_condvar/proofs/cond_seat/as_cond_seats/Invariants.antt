use Rattle.std.proofs.Common.{◌≡◌, ◌≤◌, ℕ, length, vec_len, vec_capacity}
use mathlib.Core.Option.{some}
use lib.ListN.{get_elem?}
use Rattle.lfm_condvar.proofs.cond_seat.as_cond_seats.Given as goal

abbrev pub invariant-wrapped : goal.invariant-wrapped
invariant-wrapped l = record {
  size : (vec_len l.cond_seats ≡ length l.yielded) × (vec_len l.fn.seats ≤ vec_capacity l.cond_seats);
  wraps : (j : ℕ) (s : _) → get_elem? l.cond_seats.items j ≡ some s → get_elem? l.fn.seats.items j ≡ some s.seat;
}
