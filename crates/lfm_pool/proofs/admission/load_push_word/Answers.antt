use Rattle.std.proofs.Common.{ℕ, ap, ◌∙◌}
use Rattle.atomic_table.specs.Table.{Me}
use Rattle.lfm_pool.specs.declared.view.PoolView.{PoolView}
use Rattle.lfm_pool.proofs.admission.load_push_word.Goals as goal

pub invariant_of-seat : goal.invariant_of-seat
invariant_of-seat g c = record { counted = ap (λ (z : Me ℕ PoolView). z.0.posts) c.load.ensures.2 ∙ c.args.seat.now.counted }
