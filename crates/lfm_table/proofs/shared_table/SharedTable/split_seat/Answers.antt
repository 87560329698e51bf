use Rattle.std.proofs.Common.{◌≡◌, ◌<◌, subst, sym}
use Rattle.atomic_table.specs.Table.{Splits}
use Rattle.lfm_table.specs.Rule.{Held, with_split, split_view}
use Rattle.lfm_table.specs.SeenTable.{SeenTable, SeenPlace}
use Rattle.lfm_table.proofs.shared_table.SharedTable.split_seat.Goals as goal

pub split_seat-requires : goal.split_seat-requires
split_seat-requires g c =
    subst (λ (z : SeenTable × SeenPlace g.row.T.Denot). (z.1.table_id ≡ z.0.table_id) × (0 < z.0.table_id.words) × Splits (Held g.T.Kept.follows g.T.Kept.fits) z.1.id z.1.me.0 (with_split z.1.me.0) (split_view z.1.me.0))
    (λ i. (sym c.self.view_is i, sym c.root.view_is i)) (c.requires.table.0, c.requires.table.1, c.requires.allowed)
