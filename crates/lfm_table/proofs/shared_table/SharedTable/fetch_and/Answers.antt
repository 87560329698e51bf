use Rattle.std.proofs.Common.{◌≡◌, ◌<◌, subst, sym}
use Rattle.std.specs.Prelude.{bit_and}
use mathlib.Core.Option.{none}
use Rattle.atomic_table.specs.Table.{step, Allows}
use Rattle.lfm_table.specs.Rule.{Held}
use Rattle.lfm_table.specs.SeenTable.{SeenTable, SeenPlace}
use Rattle.lfm_table.proofs.shared_table.SharedTable.fetch_and.Goals as goal

pub fetch_and-requires : goal.fetch_and-requires
fetch_and-requires g c =
    subst (λ (z : SeenTable × SeenPlace g.row.T.Denot). (z.1.table_id ≡ z.0.table_id) × (c.args.word < z.0.table_id.words)
    × Allows (Held g.T.Kept.follows g.T.Kept.fits) z.0.table_id.slots z.1.id z.1.me c.args.word (λ n. bit_and n c.args.k) (g.M.Play.then (step z.0.table_id.slots c.args.word c.args.k 0 none) z.1.me))
    (λ i. (sym c.self.view_is i, sym c.place.view_is i)) (c.requires.table, c.requires.inside, c.requires.allowed)
