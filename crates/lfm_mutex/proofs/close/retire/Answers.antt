use Rattle.std.proofs.Common.{ℕ, sym, subst}
use Rattle.lfm_table.specs.Table.{Joins}
use Rattle.lfm_table.specs.declared.seat_view.View.{View}
use Rattle.lfm_table.specs.Rule.{Held, with_joined, joined}
use Rattle.lfm_table.proofs.tables.SplitsAndJoins.{joins}
use Rattle.lfm_mutex.proofs.close.retire.Goals as goal

pub join_seat-requires-clause-allowed : goal.join_seat-requires-clause-allowed
join_seat-requires-clause-allowed g c κs within =
    let k = c.requires.root in let f = c.requires.free in let v = c.args.root.now.me.0 in let w = c.args.place.me.0 in
    subst (λ (t : ℕ × View g.row.T.Denot). Joins (Held g.T.Kept.follows g.T.Kept.fits) t.0 v c.args.place.id w (with_joined v w) (joined t.1)) (λ i. (sym k.0 i, sym c.requires.view i)) (joins g.T.Kept.follows g.T.Kept.fits v w c.args.place.id k.1 f.0 f.2 f.3)
