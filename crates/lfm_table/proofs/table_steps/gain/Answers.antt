use Rattle.std.proofs.Common.{◌≡◌, ℕ, refl, sym, ap, subst, ◌∙◌, None}
use Rattle.std.specs.Prelude.{true}
use Rattle.lfm_laws.specs.table.Carried.{carries_value}
use Rattle.lfm_laws.specs.table.Words.{stepped_by}
use Rattle.lfm_table.specs.Rule.{value_in, Advanced}
use Rattle.lfm_table.specs.Steps.{CanMake}
use Rattle.lfm_table.proofs.tables.FastPathSteps.{adds_none, leaves_by, can_keep, gained_slot, gained, idled, told_after, same_then}
use Rattle.lfm_table.proofs.table_steps.gain.Goals as goal

pub operate-found-requires-clause-can : goal.operate-found-requires-clause-can
operate-found-requires-clause-can g c κs within =
    subst (λ (w : ℕ). CanMake g.T.Kept.follows g.T.Kept.fits c.args.state.now (value_in c.args.seat.now.moving) c.args.seat.now.number c.args.seat.now.limits.seats w c.args.seat.now.place.me) (ap (λ t. t.words) c.requires.table)
    (can_keep g.T.Kept.follows g.T.Kept.fits c.args.seat.now.number c.args.seat.now.place.table_id.words c.args.seat.now.place.id c.args.seat.now.limits c.args.state.now c.args.seat.now.place.me c.args.seat.now.moving c.requires.fit g.O.Operation.kind c.requires.is_next (adds_none g.O.Operation.kind c.requires.moves_nothing.0) c.requires.moves_nothing.1 c.requires.moves_nothing.2 (λ r at. absurd (leaves_by c.args.state.now.point g.O.Operation.kind r c.requires.is_next c.requires.ends_no_hold at)))

pub returns-then-found-ne0-clause-step : goal.returns-then-found-ne0-clause-step
returns-then-found-ne0-clause-step g c = let f = c.operate-found in
    told_after f.ensures.same f.ensures.moving (idled g.T.Kept.follows g.T.Kept.fits c.args.seat.now.number c.args.seat.now.place.table_id.words c.args.seat.now.place.id c.args.seat.now.limits c.args.state.now c.args.seat.now.place.me c.args.seat.now.moving c.requires.fit g.O.Operation.kind c.requires.is_next (adds_none g.O.Operation.kind c.requires.moves_nothing.0) c.requires.moves_nothing.1 c.requires.moves_nothing.2 f.result f.new.seat.place.me f.ensures.step f.new.seat.place.table_id.words f.new.seat.place.id (ap (λ t. t.words) f.ensures.table.0) f.ensures.table.1 c.requires.free (c.requires.idles f.result c.if-found-ne0.true))

pub take_out-requires-clause-slot : goal.take_out-requires-clause-slot
take_out-requires-clause-slot g c κs within = let f = c.operate-found in
    gained_slot g.T.Kept.follows g.T.Kept.fits c.args.seat.now.number c.args.seat.now.place.table_id.words c.args.seat.now.place.id c.args.seat.now.limits c.args.state.now c.args.seat.now.place.me c.args.seat.now.moving c.requires.fit g.O.Operation.kind c.requires.is_next (adds_none g.O.Operation.kind c.requires.moves_nothing.0) c.requires.moves_nothing.1 c.requires.moves_nothing.2 f.result f.new.seat.place.me f.ensures.step c.requires.free
    (subst (λ (n : ℕ). carries_value (stepped_by c.args.state.now c.args.seat.now.number n None).seat ≡ true) (sym c.if-found-ne0.false) c.requires.gains)

pub returns-clause-step : goal.returns-clause-step
returns-clause-step g c = let f = c.operate-found in let x = c.take_out in
    told_after (same_then f.ensures.same x.ensures.same) refl (gained g.T.Kept.follows g.T.Kept.fits c.args.seat.now.number c.args.seat.now.place.table_id.words c.args.seat.now.place.id c.args.seat.now.limits c.args.state.now c.args.seat.now.place.me c.args.seat.now.moving c.requires.fit g.O.Operation.kind c.requires.is_next (adds_none g.O.Operation.kind c.requires.moves_nothing.0) c.requires.moves_nothing.1 c.requires.moves_nothing.2 0 f.new.seat.place.me
    (subst (λ (n : ℕ). Advanced g.T.Kept.follows g.T.Kept.fits c.args.state.now (value_in c.args.seat.now.moving) c.args.seat.now.place.me n f.new.seat.place.me) c.if-found-ne0.false f.ensures.step)
    x.new.seat.place.table_id.words x.new.seat.place.id (ap (λ t. t.words) (x.ensures.table.0 ∙ f.ensures.table.0)) (x.ensures.table.1 ∙ f.ensures.table.1) c.requires.free c.requires.gains x.new.seat.moving x.new.seat.place.me
    x.ensures.took)
