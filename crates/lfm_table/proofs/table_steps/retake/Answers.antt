use Rattle.std.proofs.Common.{ℕ, refl, sym, ap, subst, ◌∙◌, Option}
use Rattle.lfm_protocol.specs.declared.kinds.Kind.{Kind}
use Rattle.lfm_protocol.specs.declared.limits.Limits.{Limits}
use Rattle.lfm_table.specs.declared.rule.Moving.{Moving}
use Rattle.lfm_table.specs.Rule.{value_in, Advanced}
use Rattle.lfm_table.specs.Steps.{CanMake}
use Rattle.lfm_table.proofs.tables.FastPathSteps.{drops_by, leaves_by, can_give, given_slot, given, taken_back, told_after, same_then}
use Rattle.lfm_table.proofs.table_steps.retake.Goals as goal

pub operate-found-requires-clause-can : goal.operate-found-requires-clause-can
operate-found-requires-clause-can g c κs within =
    let s = c.args.seat.now in let o = c.put_out in
    subst (λ (z : ℕ × ℕ × Limits × Option (Moving g.row.T.Denot)). CanMake g.T.Kept.follows g.T.Kept.fits c.args.state.now (value_in z.3) z.1 z.2.seats z.0 o.new.seat.place.me) (λ j. (ap (λ t. t.words) c.requires.table j, sym o.ensures.same.0 j, sym o.ensures.same.1 j, sym o.ensures.moving j))
    (can_give g.T.Kept.follows g.T.Kept.fits s.number s.place.table_id.words s.place.id s.limits c.args.state.now s.place.me s.moving c.requires.fit Kind.CountSubtract c.requires.is_next refl (drops_by c.args.state.now.point Kind.CountSubtract c.requires.is_next refl (λ e. cc)) c.requires.gives o.new.seat.place.me o.ensures.slot (λ r. leaves_by c.args.state.now.point Kind.CountSubtract r c.requires.is_next (λ e. cc)))

pub returns-then-found-eq1-clause-step : goal.returns-then-found-eq1-clause-step
returns-then-found-eq1-clause-step g c = let s = c.args.seat.now in let o = c.put_out in let f = c.operate-found in
    told_after (same_then o.ensures.same f.ensures.same) (f.ensures.moving ∙ o.ensures.moving)
    (given g.T.Kept.follows g.T.Kept.fits s.number s.place.table_id.words s.place.id s.limits c.args.state.now s.place.me s.moving c.requires.fit Kind.CountSubtract c.requires.is_next refl (drops_by c.args.state.now.point Kind.CountSubtract c.requires.is_next refl (λ e. cc)) c.requires.gives o.new.seat.place.me o.ensures.slot 1 f.new.seat.place.me
    (subst (λ (z : Option (Moving g.row.T.Denot) × ℕ). Advanced g.T.Kept.follows g.T.Kept.fits c.args.state.now (value_in z.0) o.new.seat.place.me z.1 f.new.seat.place.me) (λ j. (o.ensures.moving j, c.if-found-eq1.true j)) f.ensures.step)
    f.new.seat.place.table_id.words f.new.seat.place.id (ap (λ t. t.words) (f.ensures.table.0 ∙ o.ensures.table.0)) (f.ensures.table.1 ∙ o.ensures.table.1) c.requires.leaves)

pub take_out-requires-clause-slot : goal.take_out-requires-clause-slot
take_out-requires-clause-slot g c κs within = let s = c.args.seat.now in let o = c.put_out in let f = c.operate-found in
    given_slot g.T.Kept.follows g.T.Kept.fits s.number s.place.table_id.words s.place.id s.limits c.args.state.now s.place.me s.moving c.requires.fit Kind.CountSubtract c.requires.is_next refl (drops_by c.args.state.now.point Kind.CountSubtract c.requires.is_next refl (λ e. cc)) c.requires.gives o.new.seat.place.me o.ensures.slot f.result f.new.seat.place.me
    (subst (λ (z : Option (Moving g.row.T.Denot)). Advanced g.T.Kept.follows g.T.Kept.fits c.args.state.now (value_in z) o.new.seat.place.me f.result f.new.seat.place.me) o.ensures.moving f.ensures.step) (c.requires.carries f.result c.if-found-eq1.false)

pub returns-clause-step : goal.returns-clause-step
returns-clause-step g c = let s = c.args.seat.now in let o = c.put_out in let f = c.operate-found in let x = c.take_out in
    told_after (same_then o.ensures.same (same_then f.ensures.same x.ensures.same)) refl
    (taken_back g.T.Kept.follows g.T.Kept.fits s.number s.place.table_id.words s.place.id s.limits c.args.state.now s.place.me s.moving c.requires.fit Kind.CountSubtract c.requires.is_next refl (drops_by c.args.state.now.point Kind.CountSubtract c.requires.is_next refl (λ e. cc)) c.requires.gives o.new.seat.place.me o.ensures.slot f.result f.new.seat.place.me
    (subst (λ (z : Option (Moving g.row.T.Denot)). Advanced g.T.Kept.follows g.T.Kept.fits c.args.state.now (value_in z) o.new.seat.place.me f.result f.new.seat.place.me) o.ensures.moving f.ensures.step) x.new.seat.place.table_id.words x.new.seat.place.id
    (ap (λ t. t.words) (x.ensures.table.0 ∙ (f.ensures.table.0 ∙ o.ensures.table.0))) (x.ensures.table.1 ∙ (f.ensures.table.1 ∙ o.ensures.table.1)) (c.requires.carries f.result c.if-found-eq1.false) x.new.seat.moving x.new.seat.place.me
    x.ensures.took)
