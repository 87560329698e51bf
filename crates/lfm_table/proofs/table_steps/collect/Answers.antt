use Rattle.std.proofs.Common.{ℕ, ap, refl, subst, ◌∙◌}
use Rattle.lfm_table.specs.Rule.{value_in}
use Rattle.lfm_table.specs.Steps.{CanMake, with_record}
use Rattle.lfm_table.proofs.tables.ServingSteps.{can_load, loaded}
use Rattle.lfm_table.proofs.tables.FastPathSteps.{told_after}
use Rattle.lfm_table.proofs.table_steps.collect.Goals as goal

pub operate-found-requires-clause-can : goal.operate-found-requires-clause-can
operate-found-requires-clause-can g c κs within = let s = c.args.seat.now in
    subst (λ (w : ℕ). CanMake g.T.Kept.follows g.T.Kept.fits c.args.state.now (value_in s.moving) s.number s.limits.seats w s.place.me) (ap (λ t. t.words) c.requires.table)
    (can_load g.T.Kept.follows g.T.Kept.fits s.number s.place.table_id.words s.place.id s.limits c.args.state.now s.place.me s.moving c.requires.fit c.requires.is_next)

pub returns-clause-step : goal.returns-clause-step
returns-clause-step g c = let s = c.args.seat.now in let f = c.operate-found in let a = c.add_loaded in
    told_after f.ensures.same refl
    (loaded g.T.Kept.follows g.T.Kept.fits s.number s.place.table_id.words s.place.id s.limits c.args.state.now s.place.me s.moving c.requires.fit c.requires.is_next f.result f.new.seat.place.me f.ensures.step a.new.moving
    (a.ensures ∙ ap (with_record c.args.state.now s.number f.result) f.ensures.moving) c.requires.held f.new.seat.place.table_id.words f.new.seat.place.id (ap (λ t. t.words) f.ensures.table.0) f.ensures.table.1)
