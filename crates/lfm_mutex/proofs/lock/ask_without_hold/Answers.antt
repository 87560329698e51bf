use Rattle.std.proofs.Common.{rules, ℕ, ◌∙◌, ◌+◌, length, refl, sym, ap, subst, arith}
use Rattle.lfm_model.specs.declared.answers.Asked.{Asked}
use Rattle.lfm_model.specs.declared.answers.How.{How}
use Rattle.lfm_protocol.specs.declared.answers.Answer.{Answer}
use Rattle.lfm_protocol.specs.declared.answers.Call.{Call}
use Rattle.lfm_protocol.specs.declared.answers.Turn.TheVariants.{Ended}
use Rattle.lfm_protocol.specs.declared.points.Entrant.{Entrant}
use Rattle.lfm_protocol.specs.declared.points.Point.TheVariants.{Rest, LockCountAdd, LockOwnerLoad, EnterOwnerStore}
use Rattle.lfm_protocol.specs.declared.seats.SeatState.{SeatState}
use Rattle.lfm_laws.specs.table.Words.{stepped_by}
use Rattle.lfm_table.specs.Rule.{value_in}
use Rattle.lfm_mutex.specs.calls.Due.{due}
use Rattle.lfm_mutex.specs.calls.FailedPushes.{Spends}
use Rattle.lfm_mutex.specs.calls.Runs.{opens}
use Rattle.lfm_mutex.specs.calls.Sight.{sight_of}
use Rattle.lfm_table.specs.Steps.{oldest_in}
use Rattle.lfm_mutex.specs.calls.FastPath.{Course, ComesTo}
use Rattle.lfm_mutex.proofs.runs.Courses.{course_none, course_next, course_join, comes}
use Rattle.lfm_table.proofs.tables.StepFacts.{made_of}
use Rattle.lfm_mutex.proofs.runs.Spending.{spends_any, spends_join, spent}
use Rattle.lfm_mutex.proofs.runs.FastPathPoints.{begins_free, fit_begun, added_none, added_some, fit_after}
use Rattle.lfm_table.specs.FastPath.{IsBetweenSteps}
use Rattle.lfm_mutex.proofs.runs.WakeUps.{grants_none, wakes_after, wakes_none}
use Rattle.lfm_mutex.specs.calls.WakeUps.{Wakes}
use Rattle.lfm_table.proofs.tables.Actions.{run_next}
use Rattle.lfm_mutex.proofs.runs.RunGoesOn.{run_made}
use Rattle.lfm_protocol.specs.declared.limits.Limits.{Limits}
use Rattle.lfm_table.proofs.tables.FastPathSteps.{told_before, same_then}
use Rattle.lfm_mutex.proofs.runs.SameSeats.{course_same, wakes_same}
use Rattle.lfm_mutex.proofs.lock.ask_without_hold.Goals as goal

pub returns-then-found-ne0-clause-made : goal.returns-then-found-ne0-clause-made
returns-then-found-ne0-clause-made g c =
    let s = c.args.seat.now in let t = s.state.takes + 1 in let ps = s.state.posts in
    let begins = begins_free s.state s.table_seat.limits c.requires.may.rests c.requires.may.flat c.requires.may.charged in
    let fit = fit_begun s.table_seat.number s.table_seat.place.table_id.words s.table_seat.place.id s.table_seat.limits s.table_seat.place.me s.table_seat.moving s.state (made_of 0 t ps LockCountAdd) Call.Lock (record { seated = s.seated; became = s.became; ready = s.ready; rooted = s.rooted }) begins in
    let f = c.gain-found in
    let q = made_of 0 t ps LockOwnerLoad in let r = c.queue.new.seat in
    let first = course_next g.T.Kept.follows g.T.Kept.fits s.table_seat.number (made_of 0 t ps LockCountAdd) s.table_seat.moving s.table_seat.place.me.0 s.table_seat.place.table_id.words s.table_seat.place.id s.table_seat.limits (made_of 0 t ps LockCountAdd) f.result s.table_seat.place.me s.table_seat.moving f.new.seat.place.me f.new.seat.moving f.new.seat.place.table_id.words f.new.seat.place.id (opens q)
    (course_none g.T.Kept.follows g.T.Kept.fits s.table_seat.number (made_of 0 t ps LockCountAdd) s.table_seat.moving s.table_seat.place.me.0) fit (told_before f.ensures.same f.ensures.step) (added_some 0 t ps s.table_seat.number f.result (oldest_in f.new.seat.moving) c.if-found-ne0.true) (λ e. cc) refl in
    let last = course_join g.T.Kept.follows g.T.Kept.fits s.table_seat.number (made_of 0 t ps LockCountAdd) s.table_seat.moving s.table_seat.place.me.0 q r.state f.new.seat.moving r.table_seat.moving f.new.seat.place.me.0 r.table_seat.place.me.0 (Ended (Answer.Asked c.queue.result.0)) first (subst (λ (x : SeatState). Course g.T.Kept.follows g.T.Kept.fits s.table_seat.number x f.new.seat.moving f.new.seat.place.me.0 (Ended (Answer.Asked c.queue.result.0)) r.state r.table_seat.moving r.table_seat.place.me.0) (c.stop_at.ensures ∙ (λ i. record { depth = c.requires.may.flat i; takes = t; posts = ps; point = LockOwnerLoad })) (course_same f.ensures.same.0 c.queue.ensures.finishes.made)) in
    comes g.T.Kept.follows g.T.Kept.fits s.table_seat.number (made_of 0 t ps LockCountAdd) s.table_seat.moving s.table_seat.place.me.0 r.table_seat.number s.table_seat.limits c.args.mutex.now.limits Call.Lock s.state r.state (Ended (Answer.Asked c.queue.result.0)) r.table_seat.moving r.table_seat.place.me.0 c.requires.belongs.1 (c.queue.ensures.finishes.kept.same.0 ∙ f.ensures.same.0) refl begins refl last

pub returns-clause-made : goal.returns-clause-made
returns-clause-made g c =
    let s = c.args.seat.now in let t = s.state.takes + 1 in let ps = s.state.posts in
    let begins = begins_free s.state s.table_seat.limits c.requires.may.rests c.requires.may.flat c.requires.may.charged in
    let fit = fit_begun s.table_seat.number s.table_seat.place.table_id.words s.table_seat.place.id s.table_seat.limits s.table_seat.place.me s.table_seat.moving s.state (made_of 0 t ps LockCountAdd) Call.Lock (record { seated = s.seated; became = s.became; ready = s.ready; rooted = s.rooted }) begins in
    let f = c.gain-found in
    let h = c.keep_held in let q = made_of 0 t ps (EnterOwnerStore Entrant.Locker How.Free) in
    let is = added_none 0 t ps s.table_seat.number f.result (oldest_in f.new.seat.moving) c.if-found-ne0.false in
    let first = course_next g.T.Kept.follows g.T.Kept.fits s.table_seat.number (made_of 0 t ps LockCountAdd) s.table_seat.moving s.table_seat.place.me.0 s.table_seat.place.table_id.words s.table_seat.place.id s.table_seat.limits (made_of 0 t ps LockCountAdd) f.result s.table_seat.place.me s.table_seat.moving f.new.seat.place.me f.new.seat.moving f.new.seat.place.table_id.words f.new.seat.place.id (opens q)
    (course_none g.T.Kept.follows g.T.Kept.fits s.table_seat.number (made_of 0 t ps LockCountAdd) s.table_seat.moving s.table_seat.place.me.0) fit (told_before f.ensures.same f.ensures.step) is (λ e. cc) refl in
    let between = fit_after g.T.Kept.follows g.T.Kept.fits s.table_seat.number f.new.seat.place.table_id.words f.new.seat.place.id s.table_seat.limits (made_of 0 t ps LockCountAdd) f.result s.table_seat.place.me s.table_seat.moving f.new.seat.place.me f.new.seat.moving (told_before f.ensures.same f.ensures.step) (opens q) is in
    let last = course_next g.T.Kept.follows g.T.Kept.fits s.table_seat.number (made_of 0 t ps LockCountAdd) s.table_seat.moving s.table_seat.place.me.0 f.new.seat.place.table_id.words f.new.seat.place.id s.table_seat.limits q h.result f.new.seat.place.me f.new.seat.moving h.new.seat.place.me h.new.seat.moving h.new.seat.place.table_id.words h.new.seat.place.id (stepped_by q s.table_seat.number h.result (oldest_in h.new.seat.moving))
    first between (told_before (same_then f.ensures.same h.ensures.same) h.ensures.step) refl (λ e. cc) refl in
    subst (λ (x : SeatState). ComesTo g.T.Kept.follows g.T.Kept.fits c.args.mutex.now.limits Call.Lock (sight_of s.table_seat.number s.state s.table_seat.place.me.0 (value_in s.table_seat.moving)) (sight_of h.new.seat.number x h.new.seat.place.me.0 (value_in h.new.seat.moving)) (Ended (Answer.Asked (Asked.Held How.Free))))
    (λ i. record { depth = 1; takes = t; posts = ps; point = sym c.requires.may.rests i })
    (comes g.T.Kept.follows g.T.Kept.fits s.table_seat.number (made_of 0 t ps LockCountAdd) s.table_seat.moving s.table_seat.place.me.0 h.new.seat.number s.table_seat.limits c.args.mutex.now.limits Call.Lock s.state (made_of 1 t ps Rest) (Ended (Answer.Asked (Asked.Held How.Free))) h.new.seat.moving h.new.seat.place.me.0 c.requires.belongs.1 (same_then f.ensures.same h.ensures.same).0 refl begins refl last)

pub returns-then-found-ne0-clause-bounded : goal.returns-then-found-ne0-clause-bounded
returns-then-found-ne0-clause-bounded g c =
    let s = c.args.seat.now in let t = s.state.takes + 1 in let ps = s.state.posts in let n = s.table_seat.limits.seats in
    let p0 = made_of 0 t ps LockCountAdd in
    let f = c.gain-found in let r = c.queue.new.seat in
    let st = stepped_by p0 s.table_seat.number f.result (oldest_in f.new.seat.moving) in
    let one = spends_any g.T.Kept.follows g.T.Kept.fits p0 st.seat s.table_seat.place.me.0 f.new.seat.place.me.0 s.table_seat.moving f.new.seat.moving st.turn (told_before f.ensures.same f.ensures.step).event (n + 8) in
    let then = subst (λ (z : SeatState × Limits). Spends (due z.1.seats (length f.new.seat.place.me.0.popped) z.0.point) 0 f.new.seat.place.me.0.trail r.table_seat.place.me.0.trail) (λ i. (c.stop_at.ensures i, f.ensures.same.1 i)) c.queue.ensures.spends in
    let same = ap (λ l. l.seats) c.requires.belongs.1 in
    spent (n + 8 + 1) (c.args.mutex.now.limits.seats + 9) s.table_seat.place.me.0.trail r.table_seat.place.me.0.trail (omega (arith, same)) (spends_join (n + 8 + 1) (n + 8) 0 s.table_seat.place.me.0.trail f.new.seat.place.me.0.trail r.table_seat.place.me.0.trail one then)

pub returns-clause-bounded : goal.returns-clause-bounded
returns-clause-bounded g c =
    let s = c.args.seat.now in let t = s.state.takes + 1 in let ps = s.state.posts in
    let p0 = made_of 0 t ps LockCountAdd in let q = made_of 0 t ps (EnterOwnerStore Entrant.Locker How.Free) in
    let f = c.gain-found in let h = c.keep_held in
    let st = stepped_by p0 s.table_seat.number f.result (oldest_in f.new.seat.moving) in
    let last = stepped_by q s.table_seat.number h.result (oldest_in h.new.seat.moving) in
    let one = spends_any g.T.Kept.follows g.T.Kept.fits p0 st.seat s.table_seat.place.me.0 f.new.seat.place.me.0 s.table_seat.moving f.new.seat.moving st.turn (told_before f.ensures.same f.ensures.step).event 1 in
    let two = spends_any g.T.Kept.follows g.T.Kept.fits q last.seat f.new.seat.place.me.0 h.new.seat.place.me.0 f.new.seat.moving h.new.seat.moving last.turn (told_before (same_then f.ensures.same h.ensures.same) h.ensures.step).event 0 in
    spent 2 (c.args.mutex.now.limits.seats + 9) s.table_seat.place.me.0.trail h.new.seat.place.me.0.trail (omega arith) (spends_join 2 1 0 s.table_seat.place.me.0.trail f.new.seat.place.me.0.trail h.new.seat.place.me.0.trail one two)

pub invariant_of-seat-2 : goal.invariant_of-seat-2
invariant_of-seat-2 g c =
    let s = c.args.seat.now in let t = s.state.takes + 1 in let ps = s.state.posts in
    let f = c.gain-found in let h = c.keep_held in
    let fit = subst (λ (x : SeatState). IsBetweenSteps h.new.seat x) (λ i. record { depth = 1; takes = t; posts = ps; point = sym c.requires.may.rests i }) h.ensures.step.fit in
    record { seated = fit.seated; became = fit.became; ready = fit.ready; rooted = fit.rooted }

pub returns-then-found-ne0-clause-acts : goal.returns-then-found-ne0-clause-acts
returns-then-found-ne0-clause-acts g c = record {
  belongs = search rules;
  woken = search rules;
  run = run_next (run_made c.gain-found.ensures.step) c.queue.ensures.finishes.made.ran.run;
  wakes = let s = c.args.seat.now in let f = c.gain-found in let on = c.queue in
      subst (λ (n : ℕ). Wakes n on.result.1 s.table_seat.place.me.0.trail on.new.seat.table_seat.place.me.0.trail) (ap (λ l. l.seats) c.requires.belongs.1)
      (wakes_after s.table_seat.limits.seats on.result.1 s.table_seat.place.me.0.trail f.new.seat.place.me.0.trail on.new.seat.table_seat.place.me.0.trail (grants_none g.T.Kept.follows g.T.Kept.fits _ _ _ _ _ _ _ f.ensures.step.event refl) (wakes_same on.result.1 f.new.seat.place.me.0.trail on.new.seat.table_seat.place.me.0.trail f.ensures.same.1 on.ensures.finishes.wakes));
}

pub returns-clause-acts : goal.returns-clause-acts
returns-clause-acts g c = record {
  belongs = search rules;
  woken = search rules;
  run = run_next (run_made c.gain-found.ensures.step) (run_made c.keep_held.ensures.step);
  wakes = let s = c.args.seat.now in let f = c.gain-found in let h = c.keep_held in
      wakes_none c.args.mutex.now.limits.seats s.table_seat.place.me.0.trail h.new.seat.place.me.0.trail (grants_none g.T.Kept.follows g.T.Kept.fits _ _ _ _ _ _ _ h.ensures.step.event refl ∙ grants_none g.T.Kept.follows g.T.Kept.fits _ _ _ _ _ _ _ f.ensures.step.event refl);
}
