use Rattle.std.proofs.Common.{◌≡◌, ℕ, length, vec_len, vec_capacity}
use mathlib.Core.Option.{some}
use lib.ListN.{get_elem?}
use Rattle.lfm_monitor.proofs.open.with_seats.Given as goal

abbrev pub invariant-triples : goal.invariant-triples
invariant-triples g l = record {
  size : (vec_len l.passes ≡ length l.yielded) × (vec_capacity l.passes ≡ vec_len l.fn.seats);
  passes : (j : ℕ) (p : _) → get_elem? l.passes.items j ≡ some p → (get_elem? l.fn.seats.items j ≡ some p.seat) × (get_elem? l.fn.cond_seats.items j ≡ some p.cond_seats) × (get_elem? l.fn.plain_seats.items j ≡ some p.plain_seats) × (p.seen ≡ 0) × (p.mine ≡ 0);
}
