use Rattle.std.proofs.Common.{◌≡◌, ℕ, sym, ap, ◌∙◌, subst, None}
use Rattle.std.specs.Prelude.{true}
use Rattle.lfm_protocol.specs.declared.limits.Limits.{Limits}
use Rattle.lfm_laws.specs.table.Carried.{carries_value}
use Rattle.lfm_laws.specs.table.Words.{stepped_by}
use Rattle.lfm_table.specs.Rule.{value_in, is_carried}
use Rattle.lfm_table.specs.FastPath.{Fit, IsBetweenSteps}
use Rattle.lfm_table.specs.Steps.{kept_out, put_in, with_record, CanMake, Took}
use Rattle.lfm_table.proofs.tables.SeatKept.{can_make, slot_there, made_next}
use Rattle.lfm_table.proofs.tables.FastPathSteps.{same_then}
use Rattle.lfm_mutex.proofs.runs.RunGoesOn.{run_stepped}
use Rattle.lfm_mutex.proofs.steps.kinds.make_of.Goals as goal

pub make_step-found-requires-clause-can : goal.make_step-found-requires-clause-can
make_step-found-requires-clause-can g c κs within = let s = c.args.seat.now in let p = c.prepare in
    subst (λ (z : ℕ × ℕ × Limits). CanMake g.T.Kept.follows g.T.Kept.fits s.state (value_in p.new.seat.moving) z.1 z.2.seats z.0 p.new.seat.place.me) (λ i. (ap (λ t. t.words) c.requires.belongs i, sym p.ensures.same.0 i, sym p.ensures.same.1 i))
    (can_make g.T.Kept.follows g.T.Kept.fits s.table_seat.number s.table_seat.place.table_id.words s.table_seat.place.id s.table_seat.limits s.state s.table_seat.place.me s.table_seat.moving s.seated s.became s.ready s.rooted p.new.seat.moving p.new.seat.place.me
    (p.ensures.moving ∙ (λ i. kept_out (c.gives-may_give.ensures i) (c.drop_oldest.ensures i)))
    (p.ensures.slot ∙ (λ i. (s.table_seat.place.me.0, put_in (c.gives-may_give.ensures i) (c.drop_oldest.ensures i) s.table_seat.place.me.1)))
    c.requires.leaves)

pub settle-requires-clause-slot : goal.settle-requires-clause-slot
settle-requires-clause-slot g c κs within = λ none carries. let s = c.args.seat.now in let p = c.prepare in let m = c.make_step-found in
    slot_there g.T.Kept.follows g.T.Kept.fits s.table_seat.number s.table_seat.place.table_id.words s.table_seat.place.id s.table_seat.limits s.state s.table_seat.place.me s.table_seat.moving s.seated s.became s.ready s.rooted m.result.0 p.new.seat.moving c.add_loaded.new.moving p.new.seat.place.me m.new.seat.place.me
    (p.ensures.moving ∙ (λ i. kept_out (c.gives-may_give.ensures i) (c.drop_oldest.ensures i)))
    (p.ensures.slot ∙ (λ i. (s.table_seat.place.me.0, put_in (c.gives-may_give.ensures i) (c.drop_oldest.ensures i) s.table_seat.place.me.1)))
    m.ensures.step (c.add_loaded.ensures ∙ ap (with_record s.state s.table_seat.number m.result.0) m.ensures.moving) none
    (subst (λ (n : ℕ). carries_value (stepped_by s.state n m.result.0 None).seat ≡ true) (same_then p.ensures.same m.ensures.same).0 carries)

pub invariant_of-seat : goal.invariant_of-seat
invariant_of-seat g c = let s = c.args.seat.now in let p = c.prepare in let m = c.make_step-found in let e = c.settle in
    let same = same_then p.ensures.same m.ensures.same in let all = same_then same e.ensures.same in
    let next = made_next g.T.Kept.follows g.T.Kept.fits s.table_seat.number s.table_seat.place.table_id.words s.table_seat.place.id s.table_seat.limits s.state s.table_seat.place.me s.table_seat.moving s.seated s.became s.ready s.rooted m.result.0 c.gives-may_give.result c.drop_oldest.new.moving p.new.seat.moving c.add_loaded.new.moving
    e.new.seat.moving p.new.seat.place.me m.new.seat.place.me e.new.seat.place.me c.advance-turn.new.state c.advance-turn.result c.oldest_of-oldest.result
    c.gives-may_give.ensures c.drop_oldest.ensures p.ensures.moving p.ensures.slot m.ensures.step (c.add_loaded.ensures ∙ ap (with_record s.state s.table_seat.number m.result.0) m.ensures.moving)
    (subst (λ (n : ℕ). Took (is_carried c.add_loaded.new.moving) (carries_value (stepped_by s.state n m.result.0 None).seat) c.add_loaded.new.moving m.new.seat.place.me e.new.seat.moving e.new.seat.place.me) same.0 e.ensures.took) c.oldest_of-oldest.ensures
    c.advance-turn.ensures.seat c.advance-turn.ensures.turn
    in
    let t = ap (λ t. t.words) (e.ensures.table.0 ∙ (m.ensures.table.0 ∙ p.ensures.table.0)) in
    let d = e.ensures.table.1 ∙ (m.ensures.table.1 ∙ p.ensures.table.1) in
    let fit : IsBetweenSteps e.new.seat c.advance-turn.new.state = subst (λ (z : ℕ × ℕ × ℕ × Limits). Fit z.2 z.0 z.1 z.3 c.advance-turn.new.state e.new.seat.place.me e.new.seat.moving) (λ i. (sym t i, sym d i, sym all.0 i, sym all.1 i))
    (record {
      seated = next.seated;
      became = next.became_now;
      ready = next.ready_now;
      rooted = next.rooted_now;
    })
    in
    record { seated = fit.seated; became = fit.became; ready = fit.ready; rooted = fit.rooted }

pub returns-clause-event : goal.returns-clause-event
returns-clause-event g c = let s = c.args.seat.now in let p = c.prepare in let m = c.make_step-found in let e = c.settle in
    let same = same_then p.ensures.same m.ensures.same in
    let next = made_next g.T.Kept.follows g.T.Kept.fits s.table_seat.number s.table_seat.place.table_id.words s.table_seat.place.id s.table_seat.limits s.state s.table_seat.place.me s.table_seat.moving s.seated s.became s.ready s.rooted m.result.0 c.gives-may_give.result c.drop_oldest.new.moving p.new.seat.moving c.add_loaded.new.moving
    e.new.seat.moving p.new.seat.place.me m.new.seat.place.me e.new.seat.place.me c.advance-turn.new.state c.advance-turn.result c.oldest_of-oldest.result
    c.gives-may_give.ensures c.drop_oldest.ensures p.ensures.moving p.ensures.slot m.ensures.step (c.add_loaded.ensures ∙ ap (with_record s.state s.table_seat.number m.result.0) m.ensures.moving)
    (subst (λ (n : ℕ). Took (is_carried c.add_loaded.new.moving) (carries_value (stepped_by s.state n m.result.0 None).seat) c.add_loaded.new.moving m.new.seat.place.me e.new.seat.moving e.new.seat.place.me) same.0 e.ensures.took) c.oldest_of-oldest.ensures
    c.advance-turn.ensures.seat c.advance-turn.ensures.turn
    in next.event

pub returns-clause-run : goal.returns-clause-run
returns-clause-run g c = run_stepped (returns-clause-event g c)
