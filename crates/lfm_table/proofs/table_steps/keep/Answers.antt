use Rattle.std.proofs.Common.{ℕ, ap, subst}
use Rattle.lfm_table.specs.Rule.{value_in}
use Rattle.lfm_table.specs.Steps.{CanMake}
use Rattle.lfm_table.proofs.tables.FastPathSteps.{adds_none, can_keep, stayed, told_after}
use Rattle.lfm_table.proofs.table_steps.keep.Goals as goal

pub operate-requires-clause-can : goal.operate-requires-clause-can
operate-requires-clause-can g c κs within =
    subst (λ (w : ℕ). CanMake g.T.Kept.follows g.T.Kept.fits c.args.state.now (value_in c.args.seat.now.moving) c.args.seat.now.number c.args.seat.now.limits.seats w c.args.seat.now.place.me) (ap (λ t. t.words) c.requires.table)
    (can_keep g.T.Kept.follows g.T.Kept.fits c.args.seat.now.number c.args.seat.now.place.table_id.words c.args.seat.now.place.id c.args.seat.now.limits c.args.state.now c.args.seat.now.place.me c.args.seat.now.moving c.requires.fit g.O.Operation.kind c.requires.is_next (adds_none g.O.Operation.kind c.requires.moves_nothing.0) c.requires.moves_nothing.1 c.requires.moves_nothing.2 c.requires.leaves)

pub returns-clause-step : goal.returns-clause-step
returns-clause-step g c = let f = c.operate in
    told_after f.ensures.same f.ensures.moving (stayed g.T.Kept.follows g.T.Kept.fits c.args.seat.now.number c.args.seat.now.place.table_id.words c.args.seat.now.place.id c.args.seat.now.limits c.args.state.now c.args.seat.now.place.me c.args.seat.now.moving c.requires.fit g.O.Operation.kind c.requires.is_next (adds_none g.O.Operation.kind c.requires.moves_nothing.0) c.requires.moves_nothing.1 c.requires.moves_nothing.2 f.result f.new.seat.place.me f.ensures.step f.new.seat.place.table_id.words f.new.seat.place.id (ap (λ t. t.words) f.ensures.table.0) f.ensures.table.1 (c.requires.stays f.result))
