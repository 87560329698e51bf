use Rattle.std.proofs.Common.{ℕ, ◌∷◌, ap, subst, sym, ◌∙◌, Option}
use Rattle.atomic_table.specs.Table.{rest}
use Rattle.lfm_protocol.specs.declared.kinds.Kind.{Kind}
use Rattle.lfm_protocol.specs.declared.limits.Limits.{Limits}
use Rattle.lfm_table.specs.declared.rule.Moving.{Moving}
use Rattle.lfm_table.specs.Rule.{value_in, Advanced}
use Rattle.lfm_table.specs.Steps.{CanMake}
use Rattle.lfm_table.proofs.tables.ServingSteps.{granting_place, can_grant, granted}
use Rattle.lfm_table.proofs.tables.FastPathSteps.{leaves_by, told_after, same_then}
use Rattle.lfm_table.proofs.table_steps.store_grant.Goals as goal

pub put_out-requires-clause-slot : goal.put_out-requires-clause-slot
put_out-requires-clause-slot g c κs within = let s = c.args.seat.now in
    granting_place g.T.Kept.follows g.T.Kept.fits s.number s.place.table_id.words s.place.id s.limits c.args.state.now s.place.me s.moving c.requires.fit c.requires.gives

pub operate-requires-clause-can : goal.operate-requires-clause-can
operate-requires-clause-can g c κs within =
    let s = c.args.seat.now in let o = c.put_out in
    let is_m = o.ensures.slot ∙ (λ i. (s.place.me.0, (0, c.drop_oldest.ensures i) ∷ rest s.place.me.1)) in
    subst (λ (z : ℕ × ℕ × Limits × Option (Moving g.row.T.Denot)). CanMake g.T.Kept.follows g.T.Kept.fits c.args.state.now (value_in z.3) z.1 z.2.seats z.0 o.new.seat.place.me) (λ j. (ap (λ t. t.words) c.requires.table j, sym o.ensures.same.0 j, sym o.ensures.same.1 j, sym o.ensures.moving j))
    (can_grant g.T.Kept.follows g.T.Kept.fits s.number s.place.table_id.words s.place.id s.limits c.args.state.now s.place.me s.moving c.requires.fit c.requires.gives o.new.seat.place.me is_m (λ r. leaves_by c.args.state.now.point Kind.WakeStore r c.requires.is_next (λ e. cc)))

pub returns-clause-step : goal.returns-clause-step
returns-clause-step g c = let s = c.args.seat.now in let o = c.put_out in let f = c.operate in
    let is_m = o.ensures.slot ∙ (λ i. (s.place.me.0, (0, c.drop_oldest.ensures i) ∷ rest s.place.me.1)) in (
      f.result,
      told_after (same_then o.ensures.same f.ensures.same) (f.ensures.moving ∙ o.ensures.moving)
          (granted g.T.Kept.follows g.T.Kept.fits s.number s.place.table_id.words s.place.id s.limits c.args.state.now s.place.me s.moving c.requires.fit c.requires.gives o.new.seat.place.me is_m f.result f.new.seat.place.me
          (subst (λ (z : Option (Moving g.row.T.Denot)). Advanced g.T.Kept.follows g.T.Kept.fits c.args.state.now (value_in z) o.new.seat.place.me f.result f.new.seat.place.me) o.ensures.moving f.ensures.step) (c.requires.leaves f.result) f.new.seat.place.table_id.words f.new.seat.place.id
          (ap (λ t. t.words) (f.ensures.table.0 ∙ o.ensures.table.0)) (f.ensures.table.1 ∙ o.ensures.table.1)),
    )
