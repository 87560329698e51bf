use Rattle.std.proofs.Common.{◌≡◌, ◌+◌, ◌%◌, ◌^◌, ◌<◌, subst, sym}
use mathlib.Core.Option.{none}
use Rattle.atomic_table.specs.Table.{step, Allows}
use Rattle.lfm_table.specs.Rule.{Held}
use Rattle.lfm_table.specs.SeenTable.{SeenTable, SeenPlace}
use Rattle.lfm_table.proofs.shared_table.SharedTable.fetch_add.Goals as goal

pub fetch_add-requires : goal.fetch_add-requires
fetch_add-requires g c =
    subst (λ (z : SeenTable × SeenPlace g.row.T.Denot). (z.1.table_id ≡ z.0.table_id) × (c.args.word < z.0.table_id.words)
    × Allows (Held g.T.Kept.follows g.T.Kept.fits) z.0.table_id.slots z.1.id z.1.me c.args.word (λ n. (n + c.args.k) % 2 ^ 64) (g.M.Play.then (step z.0.table_id.slots c.args.word c.args.k 0 none) z.1.me))
    (λ i. (sym c.self.view_is i, sym c.place.view_is i)) (c.requires.table, c.requires.inside, c.requires.allowed)
