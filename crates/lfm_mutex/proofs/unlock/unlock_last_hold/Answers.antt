use Rattle.std.proofs.Common.{rules, ◌≡◌, ℕ, ◌+◌, ◌≤◌, length, refl, sym, ap, subst, ◌∙◌, arith}
use Rattle.lfm_model.specs.declared.answers.Unlocked.{Unlocked}
use Rattle.lfm_protocol.specs.declared.answers.Answer.{Answer}
use Rattle.lfm_protocol.specs.declared.answers.Call.{Call}
use Rattle.lfm_protocol.specs.declared.answers.Turn.TheVariants.{Ended}
use Rattle.lfm_protocol.specs.declared.points.Point.TheVariants.{Rest, ReleaseOwnerStore, ReleaseCountSubtract}
use Rattle.lfm_protocol.specs.declared.points.Carrier.{Carrier}
use Rattle.lfm_protocol.specs.declared.points.Releaser.TheVariants.{Unlocker}
use Rattle.lfm_protocol.specs.After.{take}
use Rattle.lfm_protocol.specs.declared.seats.SeatState.{SeatState}
use Rattle.lfm_laws.specs.table.Words.{stepped_by}
use Rattle.lfm_table.specs.Rule.{value_in}
use Rattle.lfm_table.specs.Steps.{Event, oldest_in}
use Rattle.lfm_mutex.specs.calls.Runs.{opens, weight}
use Rattle.lfm_mutex.specs.calls.Sight.{sight_of}
use Rattle.lfm_table.specs.FastPath.{Fit, IsBetweenSteps}
use Rattle.lfm_mutex.specs.calls.FastPath.{Course, ComesTo}
use Rattle.lfm_mutex.proofs.runs.Courses.{course_none, course_next, course_join, gives_up}
use Rattle.lfm_mutex.proofs.runs.Running.{trail_grows, bounded_more}
use Rattle.lfm_mutex.proofs.runs.SightParts.{may_leave}
use Rattle.lfm_mutex.proofs.runs.FastPathPoints.{begins_last, fit_begun}
use Rattle.lfm_mutex.proofs.runs.ServePoints.{freed, not_freed}
use Rattle.lfm_table.proofs.tables.StepFacts.{made_of}
use Rattle.lfm_protocol.specs.Begin.{Stepped}
use Rattle.lfm_mutex.proofs.runs.WakeUps.{grants_none, wakes_after, wakes_none}
use Rattle.lfm_mutex.specs.calls.WakeUps.{Wakes}
use Rattle.lfm_table.proofs.tables.Actions.{run_next}
use Rattle.lfm_mutex.proofs.runs.RunGoesOn.{run_made}
use Rattle.lfm_protocol.specs.declared.limits.Limits.{Limits}
use Rattle.lfm_table.proofs.tables.FastPathSteps.{told_before, same_then}
use Rattle.lfm_mutex.proofs.runs.SameSeats.{course_same, wakes_same}
use Rattle.lfm_mutex.proofs.unlock.unlock_last_hold.Goals as goal

pub keep_held-requires-clause-leaves : goal.keep_held-requires-clause-leaves
keep_held-requires-clause-leaves g c κs within = let s = c.args.seat.now in
    λ r at. may_leave g.T.Kept.follows g.T.Kept.fits s.table_seat.number s.state s.table_seat.place.me.0 s.table_seat.moving s.seated.named (let one = c.requires.one in omega (arith, one)) c.requires.leaves

pub returns-then-found-ne1-clause-made : goal.returns-then-found-ne1-clause-made
returns-then-found-ne1-clause-made g c =
    let s = c.args.seat.now in let t = s.state.takes in let ps = s.state.posts in
    let p0 = made_of 1 t ps (ReleaseOwnerStore Unlocker) in let p1 = made_of 0 t ps (ReleaseCountSubtract Unlocker) in
    let begins = begins_last s.state s.table_seat.limits c.requires.rests c.requires.one in
    let fit = fit_begun s.table_seat.number s.table_seat.place.table_id.words s.table_seat.place.id s.table_seat.limits s.table_seat.place.me s.table_seat.moving s.state p0 Call.Unlock (record { seated = s.seated; became = s.became; ready = s.ready; rooted = s.rooted }) begins in
    let h = c.keep_held in let f = c.retake-found in
    let b = f.new.seat.place in
    let st = stepped_by p1 s.table_seat.number f.result (oldest_in f.new.seat.moving) in
    let e : Event g.T.Kept.follows g.T.Kept.fits p1 h.new.seat.moving h.new.seat.place.me.0 st.turn st.seat f.new.seat.moving b.me.0 = (told_before (same_then h.ensures.same f.ensures.same) f.ensures.step).event in
    let fit1 : Fit s.table_seat.number h.new.seat.place.table_id.words h.new.seat.place.id s.table_seat.limits p1 h.new.seat.place.me h.new.seat.moving = (told_before h.ensures.same h.ensures.step).fit in
    let r = c.serve.new.seat in let turn = Ended (Answer.Unlocked c.serve.result.0) in
    let q = made_of 0 t ps (take (Carrier.Releaser Unlocker) 0 (oldest_in f.new.seat.moving)) in
    let same : c.stop_at_serving.new.state ≡ q = c.stop_at_serving.ensures in
    let so = course_next g.T.Kept.follows g.T.Kept.fits s.table_seat.number p1 h.new.seat.moving h.new.seat.place.me.0 h.new.seat.place.table_id.words h.new.seat.place.id s.table_seat.limits p1 f.result h.new.seat.place.me h.new.seat.moving b.me f.new.seat.moving b.table_id.words b.id (opens q)
    (course_none g.T.Kept.follows g.T.Kept.fits s.table_seat.number p1 h.new.seat.moving h.new.seat.place.me.0) fit1 (told_before (same_then h.ensures.same f.ensures.same) f.ensures.step) (not_freed Unlocker 0 t ps s.table_seat.number f.result (oldest_in f.new.seat.moving) c.if-found-ne1.true) (λ e. cc) refl in
    gives_up g.T.Kept.follows g.T.Kept.fits s.table_seat.number s.table_seat.place.table_id.words s.table_seat.place.id h.new.seat.place.table_id.words h.new.seat.place.id r.table_seat.number h.result s.table_seat.limits p0 p1 s.table_seat.place.me h.new.seat.place.me s.table_seat.moving h.new.seat.moving fit Unlocker refl (told_before h.ensures.same h.ensures.step) refl Call.Unlock c.args.mutex.now.limits s.state r.state turn r.table_seat.moving r.table_seat.place.me.0 refl c.requires.belongs.1 (c.serve.ensures.finishes.kept.same.0 ∙ (same_then h.ensures.same f.ensures.same).0) begins refl
    (course_join g.T.Kept.follows g.T.Kept.fits s.table_seat.number p1 h.new.seat.moving h.new.seat.place.me.0 q r.state f.new.seat.moving r.table_seat.moving b.me.0 r.table_seat.place.me.0 turn so
    (subst (λ (x : SeatState). Course g.T.Kept.follows g.T.Kept.fits s.table_seat.number x f.new.seat.moving b.me.0 turn r.state r.table_seat.moving r.table_seat.place.me.0) same (course_same (same_then h.ensures.same f.ensures.same).0 c.serve.ensures.finishes.made)))

pub returns-clause-made : goal.returns-clause-made
returns-clause-made g c =
    let s = c.args.seat.now in let t = s.state.takes in let ps = s.state.posts in
    let p0 = made_of 1 t ps (ReleaseOwnerStore Unlocker) in let p1 = made_of 0 t ps (ReleaseCountSubtract Unlocker) in
    let begins = begins_last s.state s.table_seat.limits c.requires.rests c.requires.one in
    let fit = fit_begun s.table_seat.number s.table_seat.place.table_id.words s.table_seat.place.id s.table_seat.limits s.table_seat.place.me s.table_seat.moving s.state p0 Call.Unlock (record { seated = s.seated; became = s.became; ready = s.ready; rooted = s.rooted }) begins in
    let h = c.keep_held in let f = c.retake-found in
    let b = f.new.seat.place in
    let st = stepped_by p1 s.table_seat.number f.result (oldest_in f.new.seat.moving) in
    let e : Event g.T.Kept.follows g.T.Kept.fits p1 h.new.seat.moving h.new.seat.place.me.0 st.turn st.seat f.new.seat.moving b.me.0 = (told_before (same_then h.ensures.same f.ensures.same) f.ensures.step).event in
    let fit1 : Fit s.table_seat.number h.new.seat.place.table_id.words h.new.seat.place.id s.table_seat.limits p1 h.new.seat.place.me h.new.seat.moving = (told_before h.ensures.same h.ensures.step).fit in
    let turn = Ended (Answer.Unlocked Unlocked.Free) in
    let so = course_next g.T.Kept.follows g.T.Kept.fits s.table_seat.number p1 h.new.seat.moving h.new.seat.place.me.0 h.new.seat.place.table_id.words h.new.seat.place.id s.table_seat.limits p1 f.result h.new.seat.place.me h.new.seat.moving b.me f.new.seat.moving b.table_id.words b.id
    (record { seat = made_of 0 t ps Rest; turn = turn })
    (course_none g.T.Kept.follows g.T.Kept.fits s.table_seat.number p1 h.new.seat.moving h.new.seat.place.me.0) fit1 (told_before (same_then h.ensures.same f.ensures.same) f.ensures.step) (freed Unlocker 0 t ps s.table_seat.number f.result (oldest_in f.new.seat.moving) c.if-found-ne1.false) (λ e. cc) refl in
    subst (λ (x : SeatState). ComesTo g.T.Kept.follows g.T.Kept.fits c.args.mutex.now.limits Call.Unlock (sight_of s.table_seat.number s.state s.table_seat.place.me.0 (value_in s.table_seat.moving)) (sight_of f.new.seat.number x b.me.0 (value_in f.new.seat.moving)) turn)
    (λ i. record { depth = 0; takes = t; posts = ps; point = sym c.requires.rests i })
    (gives_up g.T.Kept.follows g.T.Kept.fits s.table_seat.number s.table_seat.place.table_id.words s.table_seat.place.id h.new.seat.place.table_id.words h.new.seat.place.id f.new.seat.number h.result s.table_seat.limits p0 p1 s.table_seat.place.me h.new.seat.place.me s.table_seat.moving h.new.seat.moving fit Unlocker refl (told_before h.ensures.same h.ensures.step) refl Call.Unlock c.args.mutex.now.limits s.state (made_of 0 t ps Rest) turn f.new.seat.moving b.me.0 refl c.requires.belongs.1 (same_then h.ensures.same f.ensures.same).0 begins refl so)

pub returns-then-found-ne1-clause-bounded : goal.returns-then-found-ne1-clause-bounded
returns-then-found-ne1-clause-bounded g c =
    let s = c.args.seat.now in let t = s.state.takes in let ps = s.state.posts in
    let p0 = made_of 1 t ps (ReleaseOwnerStore Unlocker) in let p1 = made_of 0 t ps (ReleaseCountSubtract Unlocker) in
    let h = c.keep_held in let f = c.retake-found in let b = f.new.seat.place in let r = c.serve.new.seat in
    let st = stepped_by p1 s.table_seat.number f.result (oldest_in f.new.seat.moving) in
    let first = stepped_by p0 s.table_seat.number h.result (oldest_in h.new.seat.moving) in
    let fit1 : Fit s.table_seat.number h.new.seat.place.table_id.words h.new.seat.place.id s.table_seat.limits p1 h.new.seat.place.me h.new.seat.moving = (told_before h.ensures.same h.ensures.step).fit in
    let one = trail_grows g.T.Kept.follows g.T.Kept.fits p0 first.seat s.table_seat.place.me.0 h.new.seat.place.me.0 s.table_seat.moving h.new.seat.moving first.turn (told_before h.ensures.same h.ensures.step).event in
    let most = bounded_more g.T.Kept.follows g.T.Kept.fits s.table_seat.limits.seats s.table_seat.number p1 st.seat h.new.seat.place.me.0 b.me.0 h.new.seat.moving f.new.seat.moving st.turn (λ e. cc) (ap (λ l. l.seats) fit1.seated.limits_are) fit1.ready (told_before (same_then h.ensures.same f.ensures.same) f.ensures.step).event in
    let there = (c.stop_at_serving.ensures ∙ ap (λ (z : Stepped). z.seat) (sym (not_freed Unlocker 0 t ps s.table_seat.number f.result (oldest_in f.new.seat.moving) c.if-found-ne1.true))) in
    let then = subst (λ (z : SeatState × Limits). length r.table_seat.place.me.0.trail ≤ length b.me.0.trail + weight z.1.seats (length b.me.0.popped) z.0.point) (λ i. (there i, (same_then h.ensures.same f.ensures.same).1 i)) c.serve.ensures.bounded in
    let same = ap (λ l. l.seats) c.requires.belongs.1 in
    omega (arith, one, most, then, same)

pub returns-clause-bounded : goal.returns-clause-bounded
returns-clause-bounded g c =
    let s = c.args.seat.now in let t = s.state.takes in let ps = s.state.posts in
    let p0 = made_of 1 t ps (ReleaseOwnerStore Unlocker) in let p1 = made_of 0 t ps (ReleaseCountSubtract Unlocker) in
    let h = c.keep_held in let f = c.retake-found in
    let first = stepped_by p0 s.table_seat.number h.result (oldest_in h.new.seat.moving) in
    let st = stepped_by p1 s.table_seat.number f.result (oldest_in f.new.seat.moving) in
    let one = trail_grows g.T.Kept.follows g.T.Kept.fits p0 first.seat s.table_seat.place.me.0 h.new.seat.place.me.0 s.table_seat.moving h.new.seat.moving first.turn (told_before h.ensures.same h.ensures.step).event in
    let two = trail_grows g.T.Kept.follows g.T.Kept.fits p1 st.seat h.new.seat.place.me.0 f.new.seat.place.me.0 h.new.seat.moving f.new.seat.moving st.turn (told_before (same_then h.ensures.same f.ensures.same) f.ensures.step).event in
    omega (arith, one, two)

pub invariant_of-seat-else-found-ne1 : goal.invariant_of-seat-else-found-ne1
invariant_of-seat-else-found-ne1 g c =
    let s = c.args.seat.now in let t = s.state.takes in let ps = s.state.posts in
    let f = c.retake-found in
    let fit = subst (λ (x : SeatState). IsBetweenSteps f.new.seat x)
    (ap (λ (z : Stepped). z.seat) (freed Unlocker 0 t ps f.new.seat.number f.result (oldest_in f.new.seat.moving) c.if-found-ne1.false) ∙ (λ i. record { depth = 0; takes = t; posts = ps; point = sym c.requires.rests i })) f.ensures.step.fit in
    record { seated = fit.seated; became = fit.became; ready = fit.ready; rooted = fit.rooted }

pub returns-then-found-ne1-clause-acts : goal.returns-then-found-ne1-clause-acts
returns-then-found-ne1-clause-acts g c = record {
  belongs = search rules;
  woken = search rules;
  run = run_next (run_made c.keep_held.ensures.step) (run_next (run_made c.retake-found.ensures.step) c.serve.ensures.finishes.made.ran.run);
  wakes = let s = c.args.seat.now in let h = c.keep_held in let f = c.retake-found in let on = c.serve in
      subst (λ (n : ℕ). Wakes n on.result.1 s.table_seat.place.me.0.trail on.new.seat.table_seat.place.me.0.trail) (ap (λ l. l.seats) c.requires.belongs.1)
      (wakes_after s.table_seat.limits.seats on.result.1 s.table_seat.place.me.0.trail f.new.seat.place.me.0.trail on.new.seat.table_seat.place.me.0.trail (grants_none g.T.Kept.follows g.T.Kept.fits _ _ _ _ _ _ _ f.ensures.step.event refl ∙ grants_none g.T.Kept.follows g.T.Kept.fits _ _ _ _ _ _ _ h.ensures.step.event refl) (wakes_same on.result.1 f.new.seat.place.me.0.trail on.new.seat.table_seat.place.me.0.trail (same_then h.ensures.same f.ensures.same).1 on.ensures.finishes.wakes));
}

pub returns-clause-acts : goal.returns-clause-acts
returns-clause-acts g c = record {
  belongs = search rules;
  woken = search rules;
  run = run_next (run_made c.keep_held.ensures.step) (run_made c.retake-found.ensures.step);
  wakes = let s = c.args.seat.now in let h = c.keep_held in let f = c.retake-found in
      wakes_none c.args.mutex.now.limits.seats s.table_seat.place.me.0.trail f.new.seat.place.me.0.trail (grants_none g.T.Kept.follows g.T.Kept.fits _ _ _ _ _ _ _ f.ensures.step.event refl ∙ grants_none g.T.Kept.follows g.T.Kept.fits _ _ _ _ _ _ _ h.ensures.step.event refl);
}
