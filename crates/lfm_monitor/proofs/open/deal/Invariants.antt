use Rattle.std.proofs.Common.{◌≡◌, ◌<◌, ◌≤◌, ℕ, vec_len}
use Rattle.lfm_monitor.specs.Dealing.{Dealt}
use lib.ListN.{get_elem?}
use mathlib.Core.Option.{some}
use Rattle.lfm_monitor.proofs.open.deal.Given as goal

abbrev pub invariant-deals : goal.invariant-deals
invariant-deals g l = record {
  count : (vec_len l.lists ≡ vec_len l.fn.lists) × (vec_len l.items ≤ vec_len l.fn.lists);
  left : (j : ℕ) (x : _) → get_elem? l.items.items j ≡ some x → get_elem? l.fn.items.items j ≡ some x;
  same : (j : ℕ) (r : _) → j < vec_len l.items → get_elem? l.lists.items j ≡ some r → get_elem? l.fn.lists.items j ≡ some r;
  dealt : (j : ℕ) (r : _) → vec_len l.items ≤ j → get_elem? l.lists.items j ≡ some r → Dealt l.fn.lists.items l.fn.items.items j r;
}

abbrev pub decreases-deals : goal.decreases-deals
decreases-deals g l = vec_len l.items
