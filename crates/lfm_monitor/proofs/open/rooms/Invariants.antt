use Rattle.std.proofs.Common.{◌≡◌, [], vec_capacity, vec_len, ℕ}
use lib.ListN.{get_elem?}
use mathlib.Core.Option.{some}
use Rattle.lfm_monitor.proofs.open.rooms.Given as goal

abbrev pub invariant-rooms : goal.invariant-rooms
invariant-rooms g l = record {
  count : (vec_len l.lists ≡ l.counter) × (vec_capacity l.lists ≡ l.count);
  empty : (j : ℕ) (r : _) → get_elem? l.lists.items j ≡ some r → (r.items ≡ []) × (vec_capacity r ≡ l.each);
}
