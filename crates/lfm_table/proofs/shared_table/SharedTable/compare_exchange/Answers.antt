use Rattle.std.proofs.Common.{◌≡◌, ◌<◌, subst, sym, nat_eq}
use mathlib.Core.Option.{none}
use prog.Atomic.{either}
use Rattle.atomic_table.specs.Table.{step, Allows}
use Rattle.lfm_table.specs.Rule.{Held}
use Rattle.lfm_table.specs.SeenTable.{SeenTable, SeenPlace}
use Rattle.lfm_table.proofs.shared_table.SharedTable.compare_exchange.Goals as goal

pub compare_exchange-requires : goal.compare_exchange-requires
compare_exchange-requires g c =
    subst (λ (z : SeenTable × SeenPlace g.row.T.Denot). (z.1.table_id ≡ z.0.table_id) × (c.args.word < z.0.table_id.words)
    × Allows (Held g.T.Kept.follows g.T.Kept.fits) z.0.table_id.slots z.1.id z.1.me c.args.word (λ n. either (nat_eq n c.args.old) c.args.new n) (g.M.Play.then (step z.0.table_id.slots c.args.word c.args.old c.args.new none) z.1.me))
    (λ i. (sym c.self.view_is i, sym c.place.view_is i)) (c.requires.table, c.requires.inside, c.requires.allowed)
