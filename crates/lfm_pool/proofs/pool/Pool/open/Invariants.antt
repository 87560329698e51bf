use Rattle.std.proofs.Common.{length, ◌≡◌, ◌≤◌, ◌+◌, ℕ, [], vec_len, vec_capacity}
use mathlib.Core.Option.{some}
use lib.ListN.{get_elem?}
use Rattle.lfm_pool.proofs.NewSeats.{IsSplitOff, first_after, same_of_each}
use Rattle.lfm_pool.proofs.pool.Pool.open.Given as goal

abbrev pub invariant-loop-i : goal.invariant-loop-i
invariant-loop-i l = record {
  table : l.first.place.table_id ≡ l.pool.table.shared.table_id;
  id : l.first.place.id ≡ 0;
  number : l.first.number ≡ 1;
  pool : (l.pool.mutexes ≡ l.fn.mutexes) × (l.pool.limits ≡ l.fn.limits) × (l.pool.polls ≡ 800);
  me : l.first.place.me ≡ (same_of_each l.fn.mutexes (first_after l.fn.limits (length l.all.items)), []);
  room : (length l.all.items + 1 ≡ l.i) × (vec_len l.all + 1 ≡ l.i) × (l.fn.limits.seats ≤ vec_capacity l.all);
  seats : (j : ℕ) (s : _) → get_elem? l.all.items j ≡ some s → IsSplitOff l.pool l.fn.mutexes l.fn.limits j s;
}
