use Rattle.std.proofs.Common.{rules, ℕ, ap, ◌∙◌, ◌+◌, length, refl, sym, subst, arith}
use Rattle.lfm_model.specs.declared.answers.Asked.{Asked}
use Rattle.lfm_model.specs.declared.answers.How.{How}
use Rattle.lfm_protocol.specs.declared.answers.Answer.{Answer}
use Rattle.lfm_protocol.specs.declared.answers.Call.{Call}
use Rattle.lfm_protocol.specs.declared.answers.Turn.TheVariants.{Ended}
use Rattle.lfm_protocol.specs.declared.points.Entrant.{Entrant}
use Rattle.lfm_protocol.specs.declared.points.Point.TheVariants.{Rest, LockCountAdd, LockOwnerLoad, LockCountSubtract, EnterOwnerStore}
use Rattle.lfm_protocol.specs.declared.seats.SeatState.{SeatState}
use Rattle.lfm_laws.specs.table.Words.{stepped_by}
use Rattle.lfm_table.specs.Rule.{value_in}
use Rattle.lfm_mutex.specs.calls.Due.{due}
use Rattle.lfm_mutex.specs.calls.FailedPushes.{Spends}
use Rattle.lfm_mutex.specs.calls.Runs.{opens}
use Rattle.lfm_mutex.specs.calls.Sight.{sight_of}
use Rattle.lfm_table.specs.Steps.{oldest_in}
use Rattle.lfm_mutex.specs.calls.FastPath.{Course, ComesTo}
use Rattle.lfm_mutex.proofs.runs.Courses.{course_none, course_next, course_join, comes}
use Rattle.lfm_table.proofs.tables.StepFacts.{made_of}
use Rattle.lfm_mutex.proofs.runs.Spending.{spends_any, spends_join, spent}
use Rattle.lfm_mutex.proofs.runs.FastPathPoints.{begins_again, fit_begun, added_none, added_some, owned, fit_after}
use Rattle.lfm_mutex.proofs.runs.WakeUps.{grants_none, wakes_after, wakes_none}
use Rattle.lfm_mutex.specs.calls.WakeUps.{Wakes}
use Rattle.lfm_table.proofs.tables.Actions.{run_next}
use Rattle.lfm_mutex.proofs.runs.RunGoesOn.{run_made}
use Rattle.lfm_protocol.specs.declared.limits.Limits.{Limits}
use Rattle.lfm_table.proofs.tables.FastPathSteps.{told_before, same_then}
use Rattle.lfm_mutex.proofs.runs.SameSeats.{course_same, wakes_same}
use Rattle.lfm_mutex.proofs.lock.ask_with_hold.Goals as goal

pub returns-then-found-eq0-clause-made : goal.returns-then-found-eq0-clause-made
returns-then-found-eq0-clause-made g c =
    let s = c.args.seat.now in let d = s.state.depth in let t = s.state.takes in let ps = s.state.posts in
    let p0 = made_of d t ps LockCountAdd in
    let begins = begins_again s.state s.table_seat.limits c.requires.may.rests c.requires.may.held c.requires.may.room in
    let fit = fit_begun s.table_seat.number s.table_seat.place.table_id.words s.table_seat.place.id s.table_seat.limits s.table_seat.place.me s.table_seat.moving s.state p0 Call.Lock (record { seated = s.seated; became = s.became; ready = s.ready; rooted = s.rooted }) begins in
    let f = c.keep_held-found in
    let q = made_of d t ps (EnterOwnerStore Entrant.Locker How.Free) in let r = c.finish_ask.new.seat in
    let first = course_next g.T.Kept.follows g.T.Kept.fits s.table_seat.number p0 s.table_seat.moving s.table_seat.place.me.0 s.table_seat.place.table_id.words s.table_seat.place.id s.table_seat.limits p0 f.result s.table_seat.place.me s.table_seat.moving f.new.seat.place.me f.new.seat.moving f.new.seat.place.table_id.words f.new.seat.place.id (opens q) (course_none g.T.Kept.follows g.T.Kept.fits s.table_seat.number p0 s.table_seat.moving s.table_seat.place.me.0) fit (told_before f.ensures.same f.ensures.step) (added_none d t ps s.table_seat.number f.result (oldest_in f.new.seat.moving) c.if-found-eq0.true) (λ e. cc) refl in
    let last = course_join g.T.Kept.follows g.T.Kept.fits s.table_seat.number p0 s.table_seat.moving s.table_seat.place.me.0 q r.state f.new.seat.moving r.table_seat.moving f.new.seat.place.me.0 r.table_seat.place.me.0 (Ended (Answer.Asked c.finish_ask.result.0)) first (subst (λ (x : SeatState). Course g.T.Kept.follows g.T.Kept.fits s.table_seat.number x f.new.seat.moving f.new.seat.place.me.0 (Ended (Answer.Asked c.finish_ask.result.0)) r.state r.table_seat.moving r.table_seat.place.me.0) c.stop_at.ensures (course_same f.ensures.same.0 c.finish_ask.ensures.finishes.made)) in
    comes g.T.Kept.follows g.T.Kept.fits s.table_seat.number p0 s.table_seat.moving s.table_seat.place.me.0 r.table_seat.number s.table_seat.limits c.args.mutex.now.limits Call.Lock s.state r.state (Ended (Answer.Asked c.finish_ask.result.0)) r.table_seat.moving r.table_seat.place.me.0 c.requires.belongs.1 (c.finish_ask.ensures.finishes.kept.same.0 ∙ f.ensures.same.0) refl begins refl last

pub returns-clause-made : goal.returns-clause-made
returns-clause-made g c =
    let s = c.args.seat.now in let d = s.state.depth in let t = s.state.takes in let ps = s.state.posts in
    let p0 = made_of d t ps LockCountAdd in
    let begins = begins_again s.state s.table_seat.limits c.requires.may.rests c.requires.may.held c.requires.may.room in
    let fit = fit_begun s.table_seat.number s.table_seat.place.table_id.words s.table_seat.place.id s.table_seat.limits s.table_seat.place.me s.table_seat.moving s.state p0 Call.Lock (record { seated = s.seated; became = s.became; ready = s.ready; rooted = s.rooted }) begins in
    let f = c.keep_held-found in
    let h = c.keep_held-owner in let k = c.keep_held in
    let p1 = made_of d t ps LockOwnerLoad in let p2 = made_of d t ps LockCountSubtract in
    let is1 = added_some d t ps s.table_seat.number f.result (oldest_in f.new.seat.moving) c.if-found-eq0.false in
    let is2 = owned d t ps s.table_seat.number h.result (oldest_in h.new.seat.moving) c.if-owner-number.false in
    let first = course_next g.T.Kept.follows g.T.Kept.fits s.table_seat.number p0 s.table_seat.moving s.table_seat.place.me.0 s.table_seat.place.table_id.words s.table_seat.place.id s.table_seat.limits p0 f.result s.table_seat.place.me s.table_seat.moving f.new.seat.place.me f.new.seat.moving f.new.seat.place.table_id.words f.new.seat.place.id (opens p1) (course_none g.T.Kept.follows g.T.Kept.fits s.table_seat.number p0 s.table_seat.moving s.table_seat.place.me.0) fit (told_before f.ensures.same f.ensures.step) is1 (λ e. cc) refl in
    let fit1 = fit_after g.T.Kept.follows g.T.Kept.fits s.table_seat.number f.new.seat.place.table_id.words f.new.seat.place.id s.table_seat.limits p0 f.result s.table_seat.place.me s.table_seat.moving f.new.seat.place.me f.new.seat.moving (told_before f.ensures.same f.ensures.step) (opens p1) is1 in
    let second = course_next g.T.Kept.follows g.T.Kept.fits s.table_seat.number p0 s.table_seat.moving s.table_seat.place.me.0 f.new.seat.place.table_id.words f.new.seat.place.id s.table_seat.limits p1 h.result f.new.seat.place.me f.new.seat.moving h.new.seat.place.me h.new.seat.moving h.new.seat.place.table_id.words h.new.seat.place.id (opens p2) first fit1 (told_before (same_then f.ensures.same h.ensures.same) h.ensures.step) is2 (λ e. cc) refl in
    let fit2 = fit_after g.T.Kept.follows g.T.Kept.fits s.table_seat.number h.new.seat.place.table_id.words h.new.seat.place.id s.table_seat.limits p1 h.result f.new.seat.place.me f.new.seat.moving h.new.seat.place.me h.new.seat.moving (told_before (same_then f.ensures.same h.ensures.same) h.ensures.step) (opens p2) is2 in
    let last = course_next g.T.Kept.follows g.T.Kept.fits s.table_seat.number p0 s.table_seat.moving s.table_seat.place.me.0 h.new.seat.place.table_id.words h.new.seat.place.id s.table_seat.limits p2 k.result h.new.seat.place.me h.new.seat.moving k.new.seat.place.me k.new.seat.moving k.new.seat.place.table_id.words k.new.seat.place.id (stepped_by p2 s.table_seat.number k.result (oldest_in k.new.seat.moving)) second fit2 (told_before (same_then (same_then f.ensures.same h.ensures.same) k.ensures.same) k.ensures.step) refl (λ e. cc) refl in
    subst (λ (x : SeatState). ComesTo g.T.Kept.follows g.T.Kept.fits c.args.mutex.now.limits Call.Lock (sight_of s.table_seat.number s.state s.table_seat.place.me.0 (value_in s.table_seat.moving)) (sight_of k.new.seat.number x k.new.seat.place.me.0 (value_in k.new.seat.moving)) (Ended (Answer.Asked (Asked.Again (d + 1)))))
    (λ i. record { depth = d + 1; takes = t; posts = ps; point = sym c.requires.may.rests i })
    (comes g.T.Kept.follows g.T.Kept.fits s.table_seat.number p0 s.table_seat.moving s.table_seat.place.me.0 k.new.seat.number s.table_seat.limits c.args.mutex.now.limits Call.Lock s.state (made_of (d + 1) t ps Rest) (Ended (Answer.Asked (Asked.Again (d + 1)))) k.new.seat.moving k.new.seat.place.me.0 c.requires.belongs.1 (same_then (same_then f.ensures.same h.ensures.same) k.ensures.same).0 refl begins refl last)

pub returns-then-found-eq0-clause-bounded : goal.returns-then-found-eq0-clause-bounded
returns-then-found-eq0-clause-bounded g c =
    let s = c.args.seat.now in let d = s.state.depth in let t = s.state.takes in let ps = s.state.posts in let n = s.table_seat.limits.seats in
    let p0 = made_of d t ps LockCountAdd in
    let f = c.keep_held-found in let r = c.finish_ask.new.seat in
    let st = stepped_by p0 s.table_seat.number f.result (oldest_in f.new.seat.moving) in
    let one = spends_any g.T.Kept.follows g.T.Kept.fits p0 st.seat s.table_seat.place.me.0 f.new.seat.place.me.0 s.table_seat.moving f.new.seat.moving st.turn (told_before f.ensures.same f.ensures.step).event 1 in
    let then = subst (λ (z : SeatState × Limits). Spends (due z.1.seats (length f.new.seat.place.me.0.popped) z.0.point) 0 f.new.seat.place.me.0.trail r.table_seat.place.me.0.trail) (λ i. (c.stop_at.ensures i, f.ensures.same.1 i)) c.finish_ask.ensures.spends in
    spent 2 (c.args.mutex.now.limits.seats + 9) s.table_seat.place.me.0.trail r.table_seat.place.me.0.trail (omega arith) (spends_join 2 1 0 s.table_seat.place.me.0.trail f.new.seat.place.me.0.trail r.table_seat.place.me.0.trail one then)

pub returns-clause-bounded : goal.returns-clause-bounded
returns-clause-bounded g c =
    let s = c.args.seat.now in let d = s.state.depth in let t = s.state.takes in let ps = s.state.posts in
    let p0 = made_of d t ps LockCountAdd in let p1 = made_of d t ps LockOwnerLoad in let p2 = made_of d t ps LockCountSubtract in
    let f = c.keep_held-found in let h = c.keep_held-owner in let k = c.keep_held in
    let st0 = stepped_by p0 s.table_seat.number f.result (oldest_in f.new.seat.moving) in let st1 = stepped_by p1 s.table_seat.number h.result (oldest_in h.new.seat.moving) in let st2 = stepped_by p2 s.table_seat.number k.result (oldest_in k.new.seat.moving) in
    let one = spends_any g.T.Kept.follows g.T.Kept.fits p0 st0.seat s.table_seat.place.me.0 f.new.seat.place.me.0 s.table_seat.moving f.new.seat.moving st0.turn (told_before f.ensures.same f.ensures.step).event 2 in
    let two = spends_any g.T.Kept.follows g.T.Kept.fits p1 st1.seat f.new.seat.place.me.0 h.new.seat.place.me.0 f.new.seat.moving h.new.seat.moving st1.turn (told_before (same_then f.ensures.same h.ensures.same) h.ensures.step).event 1 in
    let three = spends_any g.T.Kept.follows g.T.Kept.fits p2 st2.seat h.new.seat.place.me.0 k.new.seat.place.me.0 h.new.seat.moving k.new.seat.moving st2.turn (told_before (same_then (same_then f.ensures.same h.ensures.same) k.ensures.same) k.ensures.step).event 0 in
    spent 3 (c.args.mutex.now.limits.seats + 9) s.table_seat.place.me.0.trail k.new.seat.place.me.0.trail (omega arith)
    (spends_join 3 2 0 s.table_seat.place.me.0.trail f.new.seat.place.me.0.trail k.new.seat.place.me.0.trail one (spends_join 2 1 0 f.new.seat.place.me.0.trail h.new.seat.place.me.0.trail k.new.seat.place.me.0.trail two three))

pub returns-then-found-eq0-clause-acts : goal.returns-then-found-eq0-clause-acts
returns-then-found-eq0-clause-acts g c = record {
  belongs = search rules;
  woken = search rules;
  run = run_next (run_made c.keep_held-found.ensures.step) c.finish_ask.ensures.finishes.made.ran.run;
  wakes = let s = c.args.seat.now in let f = c.keep_held-found in let on = c.finish_ask in
      subst (λ (n : ℕ). Wakes n on.result.1 s.table_seat.place.me.0.trail on.new.seat.table_seat.place.me.0.trail) (ap (λ l. l.seats) c.requires.belongs.1)
      (wakes_after s.table_seat.limits.seats on.result.1 s.table_seat.place.me.0.trail f.new.seat.place.me.0.trail on.new.seat.table_seat.place.me.0.trail (grants_none g.T.Kept.follows g.T.Kept.fits _ _ _ _ _ _ _ f.ensures.step.event refl) (wakes_same on.result.1 f.new.seat.place.me.0.trail on.new.seat.table_seat.place.me.0.trail f.ensures.same.1 on.ensures.finishes.wakes));
}

pub returns-clause-acts : goal.returns-clause-acts
returns-clause-acts g c = record {
  belongs = search rules;
  woken = search rules;
  run = run_next (run_made c.keep_held-found.ensures.step) (run_next (run_made c.keep_held-owner.ensures.step) (run_made c.keep_held.ensures.step));
  wakes = let s = c.args.seat.now in let f = c.keep_held-found in let h = c.keep_held-owner in let k = c.keep_held in
      wakes_none c.args.mutex.now.limits.seats s.table_seat.place.me.0.trail k.new.seat.place.me.0.trail (grants_none g.T.Kept.follows g.T.Kept.fits _ _ _ _ _ _ _ k.ensures.step.event refl ∙ (grants_none g.T.Kept.follows g.T.Kept.fits _ _ _ _ _ _ _ h.ensures.step.event refl ∙ grants_none g.T.Kept.follows g.T.Kept.fits _ _ _ _ _ _ _ f.ensures.step.event refl));
}
