use Rattle.std.proofs.Common.{refl, ap, sym, ◌∙◌, arith}
use Rattle.std.proofs.lemmas.Bool.{leb-true, leb-false}
use Rattle.lfm_protocol.specs.declared.kinds.Kind.{Kind}
use Rattle.lfm_table.proofs.tables.FastPathSteps.{drops_by, gives_by, gained_slot, gained, idled, told_after, same_then}
use Rattle.lfm_table.proofs.table_steps.gain_by_grant.Goals as goal

pub returns-then-not-is_grant_word-clause-step : goal.returns-then-not-is_grant_word-clause-step
returns-then-not-is_grant_word-clause-step g c = let f = c.operate-found in
    told_after f.ensures.same f.ensures.moving (idled g.T.Kept.follows g.T.Kept.fits c.args.seat.now.number c.args.seat.now.place.table_id.words c.args.seat.now.place.id c.args.seat.now.limits c.args.state.now c.args.seat.now.place.me c.args.seat.now.moving c.requires.fit Kind.WakeLoad c.requires.is_next refl (drops_by c.args.state.now.point Kind.WakeLoad c.requires.is_next refl (λ e. cc)) (gives_by c.args.state.now.point Kind.WakeLoad c.requires.is_next refl (λ e. cc)) f.result f.new.seat.place.me f.ensures.step f.new.seat.place.table_id.words f.new.seat.place.id (ap (λ t. t.words) f.ensures.table.0) f.ensures.table.1 c.requires.free (c.requires.idles f.result (omega (arith, leb-false 3 f.result (sym c.if-not-is_grant_word.ensures)))))

pub take_out-requires-clause-slot : goal.take_out-requires-clause-slot
take_out-requires-clause-slot g c κs within = let f = c.operate-found in let h = leb-true 3 f.result (sym c.if-not-is_grant_word.ensures) in
    gained_slot g.T.Kept.follows g.T.Kept.fits c.args.seat.now.number c.args.seat.now.place.table_id.words c.args.seat.now.place.id c.args.seat.now.limits c.args.state.now c.args.seat.now.place.me c.args.seat.now.moving c.requires.fit Kind.WakeLoad c.requires.is_next refl (drops_by c.args.state.now.point Kind.WakeLoad c.requires.is_next refl (λ e. cc)) (gives_by c.args.state.now.point Kind.WakeLoad c.requires.is_next refl (λ e. cc)) f.result f.new.seat.place.me f.ensures.step c.requires.free (c.requires.gains f.result (omega (arith, h)))

pub returns-clause-step : goal.returns-clause-step
returns-clause-step g c = let f = c.operate-found in let x = c.take_out in let h = leb-true 3 f.result (sym c.if-not-is_grant_word.ensures) in
    told_after (same_then f.ensures.same x.ensures.same) refl (gained g.T.Kept.follows g.T.Kept.fits c.args.seat.now.number c.args.seat.now.place.table_id.words c.args.seat.now.place.id c.args.seat.now.limits c.args.state.now c.args.seat.now.place.me c.args.seat.now.moving c.requires.fit Kind.WakeLoad c.requires.is_next refl (drops_by c.args.state.now.point Kind.WakeLoad c.requires.is_next refl (λ e. cc)) (gives_by c.args.state.now.point Kind.WakeLoad c.requires.is_next refl (λ e. cc)) f.result f.new.seat.place.me f.ensures.step
    x.new.seat.place.table_id.words x.new.seat.place.id (ap (λ t. t.words) (x.ensures.table.0 ∙ f.ensures.table.0)) (x.ensures.table.1 ∙ f.ensures.table.1) c.requires.free (c.requires.gains f.result (omega (arith, h))) x.new.seat.moving x.new.seat.place.me
    x.ensures.took)
