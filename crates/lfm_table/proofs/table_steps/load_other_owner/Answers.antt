use Rattle.std.proofs.Common.{◌≢◌, refl, sym, ap, ◌∙◌, arith}
use Rattle.lfm_protocol.specs.declared.kinds.Kind.{Kind}
use Rattle.lfm_table.proofs.tables.FastPathSteps.{drops_by, gives_by, idled, told_after}
use Rattle.lfm_table.proofs.table_steps.load_other_owner.Goals as goal

pub returns-clause-other : goal.returns-clause-other
returns-clause-other g c = let f = c.operate in
    λ z. let deep = (f.ensures.step.owner c.requires.is_next).0 (z ∙ sym c.requires.fit.seated.named) in let flat = c.requires.flat in absurd (omega (arith, deep, flat))

pub returns-clause-step : goal.returns-clause-step
returns-clause-step g c = let f = c.operate in
    let other : f.result ≢ c.args.seat.now.number = (λ z. let deep = (f.ensures.step.owner c.requires.is_next).0 (z ∙ sym c.requires.fit.seated.named) in let flat = c.requires.flat in absurd (omega (arith, deep, flat))) in
    told_after f.ensures.same f.ensures.moving (idled g.T.Kept.follows g.T.Kept.fits c.args.seat.now.number c.args.seat.now.place.table_id.words c.args.seat.now.place.id c.args.seat.now.limits c.args.state.now c.args.seat.now.place.me c.args.seat.now.moving c.requires.fit Kind.OwnerLoad c.requires.is_next refl (drops_by c.args.state.now.point Kind.OwnerLoad c.requires.is_next refl (λ e. cc)) (gives_by c.args.state.now.point Kind.OwnerLoad c.requires.is_next refl (λ e. cc)) f.result f.new.seat.place.me f.ensures.step f.new.seat.place.table_id.words f.new.seat.place.id (ap (λ t. t.words) f.ensures.table.0) f.ensures.table.1 c.requires.free (c.requires.idles f.result other))
