use Rattle.std.proofs.Common.{◌≡◌, ◌<◌, subst, sym}
use mathlib.Core.Option.{none}
use Rattle.atomic_table.specs.Table.{step, Allows}
use Rattle.lfm_table.specs.Rule.{Held}
use Rattle.lfm_table.specs.SeenTable.{SeenTable, SeenPlace}
use Rattle.lfm_table.proofs.shared_table.SharedTable.store.Goals as goal

pub store-requires : goal.store-requires
store-requires g c =
    subst (λ (z : SeenTable × SeenPlace g.row.T.Denot). (z.1.table_id ≡ z.0.table_id) × (c.args.word < z.0.table_id.words)
    × Allows (Held g.T.Kept.follows g.T.Kept.fits) z.0.table_id.slots z.1.id z.1.me c.args.word (λ _. c.args.new) (λ _. g.M.Play.then (step z.0.table_id.slots c.args.word c.args.new 0 none) z.1.me c.args.new))
    (λ i. (sym c.self.view_is i, sym c.place.view_is i)) (c.requires.table, c.requires.inside, c.requires.allowed)
