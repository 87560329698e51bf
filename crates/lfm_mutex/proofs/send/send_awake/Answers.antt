use Rattle.std.proofs.Common.{rules, ◌+◌, ℕ, refl, sym, ap, subst, ◌∙◌, arith}
use Rattle.lfm_model.specs.declared.refusals.Refusal.{Refusal}
use Rattle.lfm_protocol.specs.declared.answers.Call.{Call}
use Rattle.lfm_protocol.specs.declared.answers.Turn.TheVariants.{Refused}
use Rattle.lfm_protocol.specs.declared.answers.Why.{Why}
use Rattle.lfm_protocol.specs.declared.points.Point.TheVariants.{Rest, SendCountAdd, SendWakeExchange}
use Rattle.lfm_protocol.specs.declared.seats.SeatState.{SeatState}
use Rattle.lfm_laws.specs.table.Words.{stepped_by}
use Rattle.lfm_table.specs.Rule.{value_in}
use Rattle.lfm_table.specs.Steps.{oldest_in}
use Rattle.lfm_mutex.specs.calls.Runs.{opens}
use Rattle.lfm_mutex.specs.calls.Sight.{sight_of}
use Rattle.lfm_mutex.specs.calls.FastPath.{ComesTo, send_turn}
use Rattle.lfm_mutex.specs.calls.WakeUps.{Wakes}
use Rattle.lfm_mutex.proofs.runs.Courses.{course_none, course_next, course_join, comes}
use Rattle.lfm_mutex.proofs.runs.SendPoints.{begins_send, claims_it, waits_not}
use Rattle.lfm_mutex.proofs.runs.Spending.{spends_any, spends_join, spent}
use Rattle.lfm_mutex.proofs.runs.FastPathPoints.{fit_begun}
use Rattle.lfm_table.proofs.tables.StepFacts.{made_of}
use Rattle.lfm_mutex.proofs.runs.WakeUps.{grants_none, wakes_after, wakes_none}
use Rattle.lfm_table.proofs.tables.Actions.{run_next}
use Rattle.lfm_mutex.proofs.runs.RunGoesOn.{run_made}
use Rattle.lfm_protocol.specs.declared.limits.Limits.{Limits}
use Rattle.lfm_table.proofs.tables.FastPathSteps.{told_before}
use Rattle.lfm_mutex.specs.calls.FailedPushes.{Spends}
use Rattle.lfm_mutex.proofs.runs.SameSeats.{course_same, wakes_same}
use Rattle.lfm_mutex.proofs.send.send_awake.Goals as goal

pub returns-then-found-waiting-clause-made : goal.returns-then-found-waiting-clause-made
returns-then-found-waiting-clause-made g c =
    let s = c.args.seat.now in let d = s.state.depth in let t = s.state.takes in let ps = s.state.posts in let a = s.table_seat.moving in let u = c.args.target in let f = c.keep-found in let b = f.new.seat.moving in
    let p0 = made_of d t ps (SendWakeExchange u) in
    let begins = begins_send s.state s.table_seat.limits u c.requires.rests c.requires.above c.requires.within in
    let fit = fit_begun s.table_seat.number s.table_seat.place.table_id.words s.table_seat.place.id s.table_seat.limits s.table_seat.place.me a s.state p0 (Call.SendLock u) (record { seated = s.seated; became = s.became; ready = s.ready; rooted = s.rooted }) begins in
    let q = made_of d t ps Rest in let turn = Refused (Why.By Refusal.NotWaiting) in
    let so = course_next g.T.Kept.follows g.T.Kept.fits s.table_seat.number p0 a s.table_seat.place.me.0 s.table_seat.place.table_id.words s.table_seat.place.id s.table_seat.limits p0 f.result s.table_seat.place.me a f.new.seat.place.me b f.new.seat.place.table_id.words f.new.seat.place.id (record { seat = q; turn = turn })
    (course_none g.T.Kept.follows g.T.Kept.fits s.table_seat.number p0 a s.table_seat.place.me.0) fit (told_before f.ensures.same f.ensures.step) (waits_not d t ps s.table_seat.number f.result u (oldest_in b) (λ e. c.if-found-waiting.true (e ∙ sym c.to_word-waiting.ensures))) (λ e. cc) refl in
    subst (λ (x : SeatState). ComesTo g.T.Kept.follows g.T.Kept.fits c.args.mutex.now.limits (Call.SendLock u) (sight_of s.table_seat.number s.state s.table_seat.place.me.0 (value_in a)) (sight_of f.new.seat.number x f.new.seat.place.me.0 (value_in b)) turn)
    (λ i. record { depth = d; takes = t; posts = ps; point = sym c.requires.rests i })
    (comes g.T.Kept.follows g.T.Kept.fits s.table_seat.number p0 a s.table_seat.place.me.0 f.new.seat.number s.table_seat.limits c.args.mutex.now.limits (Call.SendLock u) s.state q turn b f.new.seat.place.me.0 c.requires.belongs.1 f.ensures.same.0 refl begins refl so)

pub returns-then-found-waiting-clause-bounded : goal.returns-then-found-waiting-clause-bounded
returns-then-found-waiting-clause-bounded g c =
    let s = c.args.seat.now in let d = s.state.depth in let t = s.state.takes in let ps = s.state.posts in let a = s.table_seat.moving in let u = c.args.target in let f = c.keep-found in let b = f.new.seat.moving in
    let p0 = made_of d t ps (SendWakeExchange u) in
    let begins = begins_send s.state s.table_seat.limits u c.requires.rests c.requires.above c.requires.within in
    let fit = fit_begun s.table_seat.number s.table_seat.place.table_id.words s.table_seat.place.id s.table_seat.limits s.table_seat.place.me a s.state p0 (Call.SendLock u) (record { seated = s.seated; became = s.became; ready = s.ready; rooted = s.rooted }) begins in
    let st = stepped_by p0 s.table_seat.number f.result (oldest_in b) in
    spent 1 (c.args.mutex.now.limits.seats + 9) s.table_seat.place.me.0.trail f.new.seat.place.me.0.trail (omega arith) (spends_any g.T.Kept.follows g.T.Kept.fits p0 st.seat s.table_seat.place.me.0 f.new.seat.place.me.0 a b st.turn (told_before f.ensures.same f.ensures.step).event 0)

pub returns-then-seat-eq0-clause-made : goal.returns-then-seat-eq0-clause-made
returns-then-seat-eq0-clause-made g c =
    let s = c.args.seat.now in let d = s.state.depth in let t = s.state.takes in let ps = s.state.posts in let a = s.table_seat.moving in let u = c.args.target in let f = c.keep-found in let b = f.new.seat.moving in
    let p0 = made_of d t ps (SendWakeExchange u) in
    let begins = begins_send s.state s.table_seat.limits u c.requires.rests c.requires.above c.requires.within in
    let fit = fit_begun s.table_seat.number s.table_seat.place.table_id.words s.table_seat.place.id s.table_seat.limits s.table_seat.place.me a s.state p0 (Call.SendLock u) (record { seated = s.seated; became = s.became; ready = s.ready; rooted = s.rooted }) begins in
    let q = made_of d t ps (SendCountAdd u) in let on = c.send_without_hold in let r = on.new.seat in
    let so = course_next g.T.Kept.follows g.T.Kept.fits s.table_seat.number p0 a s.table_seat.place.me.0 s.table_seat.place.table_id.words s.table_seat.place.id s.table_seat.limits p0 f.result s.table_seat.place.me a f.new.seat.place.me b f.new.seat.place.table_id.words f.new.seat.place.id (opens q)
    (course_none g.T.Kept.follows g.T.Kept.fits s.table_seat.number p0 a s.table_seat.place.me.0) fit (told_before f.ensures.same f.ensures.step) (claims_it d t ps s.table_seat.number f.result u (oldest_in b) (c.if-found-waiting.false ∙ c.to_word-waiting.ensures)) (λ e. cc) refl in
    comes g.T.Kept.follows g.T.Kept.fits s.table_seat.number p0 a s.table_seat.place.me.0 r.table_seat.number s.table_seat.limits c.args.mutex.now.limits (Call.SendLock u) s.state r.state (send_turn on.result.0) r.table_seat.moving r.table_seat.place.me.0 c.requires.belongs.1 (on.ensures.finishes.kept.same.0 ∙ f.ensures.same.0) refl begins on.ensures.ends
    (course_join g.T.Kept.follows g.T.Kept.fits s.table_seat.number p0 a s.table_seat.place.me.0 q r.state b r.table_seat.moving f.new.seat.place.me.0 r.table_seat.place.me.0 (send_turn on.result.0) so (course_same f.ensures.same.0 on.ensures.finishes.made))

pub returns-then-seat-eq0-clause-bounded : goal.returns-then-seat-eq0-clause-bounded
returns-then-seat-eq0-clause-bounded g c =
    let s = c.args.seat.now in let d = s.state.depth in let t = s.state.takes in let ps = s.state.posts in let a = s.table_seat.moving in let u = c.args.target in let f = c.keep-found in let b = f.new.seat.moving in
    let p0 = made_of d t ps (SendWakeExchange u) in
    let begins = begins_send s.state s.table_seat.limits u c.requires.rests c.requires.above c.requires.within in
    let fit = fit_begun s.table_seat.number s.table_seat.place.table_id.words s.table_seat.place.id s.table_seat.limits s.table_seat.place.me a s.state p0 (Call.SendLock u) (record { seated = s.seated; became = s.became; ready = s.ready; rooted = s.rooted }) begins in
    let on = c.send_without_hold in let r = on.new.seat in let n = s.table_seat.limits.seats in let same = ap (λ l. l.seats) c.requires.belongs.1 in
    let st = stepped_by p0 s.table_seat.number f.result (oldest_in b) in
    let one = spends_any g.T.Kept.follows g.T.Kept.fits p0 st.seat s.table_seat.place.me.0 f.new.seat.place.me.0 a b st.turn (told_before f.ensures.same f.ensures.step).event (n + 8) in
    spent (n + 8 + 1) (c.args.mutex.now.limits.seats + 9) s.table_seat.place.me.0.trail r.table_seat.place.me.0.trail (omega (arith, same)) (spends_join (n + 8 + 1) (n + 8) 0 s.table_seat.place.me.0.trail f.new.seat.place.me.0.trail r.table_seat.place.me.0.trail one (subst (λ (l : Limits). Spends (l.seats + 8) 0 f.new.seat.place.me.0.trail r.table_seat.place.me.0.trail) f.ensures.same.1 on.ensures.spends))

pub returns-clause-made : goal.returns-clause-made
returns-clause-made g c =
    let s = c.args.seat.now in let d = s.state.depth in let t = s.state.takes in let ps = s.state.posts in let a = s.table_seat.moving in let u = c.args.target in let f = c.keep-found in let b = f.new.seat.moving in
    let p0 = made_of d t ps (SendWakeExchange u) in
    let begins = begins_send s.state s.table_seat.limits u c.requires.rests c.requires.above c.requires.within in
    let fit = fit_begun s.table_seat.number s.table_seat.place.table_id.words s.table_seat.place.id s.table_seat.limits s.table_seat.place.me a s.state p0 (Call.SendLock u) (record { seated = s.seated; became = s.became; ready = s.ready; rooted = s.rooted }) begins in
    let q = made_of d t ps (SendCountAdd u) in let on = c.send_with_hold in let r = on.new.seat in
    let so = course_next g.T.Kept.follows g.T.Kept.fits s.table_seat.number p0 a s.table_seat.place.me.0 s.table_seat.place.table_id.words s.table_seat.place.id s.table_seat.limits p0 f.result s.table_seat.place.me a f.new.seat.place.me b f.new.seat.place.table_id.words f.new.seat.place.id (opens q)
    (course_none g.T.Kept.follows g.T.Kept.fits s.table_seat.number p0 a s.table_seat.place.me.0) fit (told_before f.ensures.same f.ensures.step) (claims_it d t ps s.table_seat.number f.result u (oldest_in b) (c.if-found-waiting.false ∙ c.to_word-waiting.ensures)) (λ e. cc) refl in
    comes g.T.Kept.follows g.T.Kept.fits s.table_seat.number p0 a s.table_seat.place.me.0 r.table_seat.number s.table_seat.limits c.args.mutex.now.limits (Call.SendLock u) s.state r.state (send_turn on.result.0) r.table_seat.moving r.table_seat.place.me.0 c.requires.belongs.1 (on.ensures.finishes.kept.same.0 ∙ f.ensures.same.0) refl begins on.ensures.ends
    (course_join g.T.Kept.follows g.T.Kept.fits s.table_seat.number p0 a s.table_seat.place.me.0 q r.state b r.table_seat.moving f.new.seat.place.me.0 r.table_seat.place.me.0 (send_turn on.result.0) so (course_same f.ensures.same.0 on.ensures.finishes.made))

pub returns-clause-bounded : goal.returns-clause-bounded
returns-clause-bounded g c =
    let s = c.args.seat.now in let d = s.state.depth in let t = s.state.takes in let ps = s.state.posts in let a = s.table_seat.moving in let u = c.args.target in let f = c.keep-found in let b = f.new.seat.moving in
    let p0 = made_of d t ps (SendWakeExchange u) in
    let begins = begins_send s.state s.table_seat.limits u c.requires.rests c.requires.above c.requires.within in
    let fit = fit_begun s.table_seat.number s.table_seat.place.table_id.words s.table_seat.place.id s.table_seat.limits s.table_seat.place.me a s.state p0 (Call.SendLock u) (record { seated = s.seated; became = s.became; ready = s.ready; rooted = s.rooted }) begins in
    let on = c.send_with_hold in let r = on.new.seat in let n = s.table_seat.limits.seats in let same = ap (λ l. l.seats) c.requires.belongs.1 in
    let st = stepped_by p0 s.table_seat.number f.result (oldest_in b) in
    let one = spends_any g.T.Kept.follows g.T.Kept.fits p0 st.seat s.table_seat.place.me.0 f.new.seat.place.me.0 a b st.turn (told_before f.ensures.same f.ensures.step).event (n + 8) in
    spent (n + 8 + 1) (c.args.mutex.now.limits.seats + 9) s.table_seat.place.me.0.trail r.table_seat.place.me.0.trail (omega (arith, same)) (spends_join (n + 8 + 1) (n + 8) 0 s.table_seat.place.me.0.trail f.new.seat.place.me.0.trail r.table_seat.place.me.0.trail one (subst (λ (l : Limits). Spends (l.seats + 8) 0 f.new.seat.place.me.0.trail r.table_seat.place.me.0.trail) f.ensures.same.1 on.ensures.spends))

pub returns-then-found-waiting-clause-acts : goal.returns-then-found-waiting-clause-acts
returns-then-found-waiting-clause-acts g c = record {
  belongs = search rules;
  woken = search rules;
  run = run_made c.keep-found.ensures.step;
  wakes = let s = c.args.seat.now in let f = c.keep-found in let b = f.new.seat.moving in
      wakes_none c.args.mutex.now.limits.seats s.table_seat.place.me.0.trail f.new.seat.place.me.0.trail (grants_none g.T.Kept.follows g.T.Kept.fits _ _ _ _ _ _ _ (told_before f.ensures.same f.ensures.step).event refl);
}

pub returns-then-seat-eq0-clause-acts : goal.returns-then-seat-eq0-clause-acts
returns-then-seat-eq0-clause-acts g c = record {
  belongs = search rules;
  woken = search rules;
  run = run_next (run_made c.keep-found.ensures.step) c.send_without_hold.ensures.finishes.made.ran.run;
  wakes = let s = c.args.seat.now in let f = c.keep-found in let on = c.send_without_hold in
      subst (λ (n : ℕ). Wakes n on.result.1 s.table_seat.place.me.0.trail on.new.seat.table_seat.place.me.0.trail) (ap (λ l. l.seats) c.requires.belongs.1)
      (wakes_after s.table_seat.limits.seats on.result.1 s.table_seat.place.me.0.trail f.new.seat.place.me.0.trail on.new.seat.table_seat.place.me.0.trail (grants_none g.T.Kept.follows g.T.Kept.fits _ _ _ _ _ _ _ (told_before f.ensures.same f.ensures.step).event refl) (wakes_same on.result.1 f.new.seat.place.me.0.trail on.new.seat.table_seat.place.me.0.trail f.ensures.same.1 on.ensures.finishes.wakes));
}

pub returns-clause-acts : goal.returns-clause-acts
returns-clause-acts g c = record {
  belongs = search rules;
  woken = search rules;
  run = run_next (run_made c.keep-found.ensures.step) c.send_with_hold.ensures.finishes.made.ran.run;
  wakes = let s = c.args.seat.now in let f = c.keep-found in let on = c.send_with_hold in
      subst (λ (n : ℕ). Wakes n on.result.1 s.table_seat.place.me.0.trail on.new.seat.table_seat.place.me.0.trail) (ap (λ l. l.seats) c.requires.belongs.1)
      (wakes_after s.table_seat.limits.seats on.result.1 s.table_seat.place.me.0.trail f.new.seat.place.me.0.trail on.new.seat.table_seat.place.me.0.trail (grants_none g.T.Kept.follows g.T.Kept.fits _ _ _ _ _ _ _ (told_before f.ensures.same f.ensures.step).event refl) (wakes_same on.result.1 f.new.seat.place.me.0.trail on.new.seat.table_seat.place.me.0.trail f.ensures.same.1 on.ensures.finishes.wakes));
}
