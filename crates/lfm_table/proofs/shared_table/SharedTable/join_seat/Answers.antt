use Rattle.std.proofs.Common.{◌≡◌, ◌<◌, [], subst, sym}
use Rattle.atomic_table.specs.Table.{Joins}
use Rattle.lfm_table.specs.Rule.{Held, with_joined, joined}
use Rattle.lfm_table.specs.SeenTable.{SeenTable, SeenPlace}
use Rattle.lfm_table.proofs.shared_table.SharedTable.join_seat.Goals as goal

pub join_seat-requires : goal.join_seat-requires
join_seat-requires g c =
    subst (λ (z : SeenTable × SeenPlace g.row.T.Denot × SeenPlace g.row.T.Denot). (z.1.table_id ≡ z.0.table_id) × (z.2.table_id ≡ z.0.table_id) × (z.2.me.1 ≡ []) × (0 < z.0.table_id.words)
    × Joins (Held g.T.Kept.follows g.T.Kept.fits) z.1.id z.1.me.0 z.2.id z.2.me.0 (with_joined z.1.me.0 z.2.me.0) (joined g.B.JoinedView.view))
    (λ i. (sym c.self.view_is i, sym c.root.view_is i, sym c.place.view_is i)) (c.requires.table.0, c.requires.table.1, c.requires.free, c.requires.table.2, c.requires.allowed)
