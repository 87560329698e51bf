use Rattle.std.proofs.Common.{rules, ◌-◌, ◌≡◌, ◌+◌, refl, sym, ap, subst, ◌∙◌, arith}
use Rattle.lfm_model.specs.declared.answers.Locked.{Locked}
use Rattle.lfm_model.specs.declared.refusals.Refusal.{Refusal}
use Rattle.lfm_model.specs.declared.answers.How.{How}
use Rattle.lfm_protocol.specs.declared.answers.Answer.{Answer}
use Rattle.lfm_protocol.specs.declared.answers.Call.{Call}
use Rattle.lfm_protocol.specs.declared.answers.Turn.TheVariants.{Ended, Refused}
use Rattle.lfm_protocol.specs.declared.answers.Why.{Why}
use Rattle.lfm_protocol.specs.declared.points.Entrant.{Entrant}
use Rattle.lfm_protocol.specs.declared.points.Point.TheVariants.{Rest, TryCountExchange, TryOwnerLoad, TryHandoffLoad, TryHandoffExchange, EnterOwnerStore}
use Rattle.lfm_protocol.specs.declared.seats.SeatState.{SeatState}
use Rattle.lfm_protocol.specs.Begin.{Stepped}
use Rattle.lfm_laws.specs.table.Words.{stepped_by, handoff_of}
use Rattle.lfm_table.specs.Rule.{value_in}
use Rattle.lfm_mutex.specs.calls.Runs.{opens}
use Rattle.lfm_mutex.specs.calls.Sight.{sight_of}
use Rattle.lfm_table.specs.Steps.{oldest_in}
use Rattle.lfm_mutex.specs.calls.FastPath.{Course, ComesTo, try_turn}
use Rattle.lfm_mutex.proofs.runs.Courses.{course_none, course_next, course_join, comes}
use Rattle.lfm_table.proofs.tables.StepFacts.{made_of}
use Rattle.lfm_mutex.proofs.runs.FastPathPoints.{begins_try_free, fit_begun, exchanged_none, exchanged_some, try_not_owned, posted, unposted, fit_after}
use Rattle.lfm_table.specs.FastPath.{IsBetweenSteps}
use Rattle.lfm_table.proofs.tables.Actions.{run_next}
use Rattle.lfm_mutex.proofs.runs.RunGoesOn.{run_made}
use Rattle.lfm_table.proofs.tables.FastPathSteps.{told_before, same_then}
use Rattle.lfm_mutex.proofs.runs.SameSeats.{course_same}
use Rattle.lfm_mutex.proofs.try_lock.try_without_hold.Goals as goal

pub returns-then-found-eq0-clause-made : goal.returns-then-found-eq0-clause-made
returns-then-found-eq0-clause-made g c =
    let s = c.args.seat.now in let t = s.state.takes + 1 in let ps = s.state.posts in
    let p0 = made_of 0 t ps TryCountExchange in
    let begins = begins_try_free s.state s.table_seat.limits c.requires.may.rests c.requires.may.flat c.requires.may.charged in
    let fit = fit_begun s.table_seat.number s.table_seat.place.table_id.words s.table_seat.place.id s.table_seat.limits s.table_seat.place.me s.table_seat.moving s.state p0 Call.TryLock (record { seated = s.seated; became = s.became; ready = s.ready; rooted = s.rooted }) begins in
    let f = c.gain-found in
    let h = c.keep_held in let q = made_of 0 t ps (EnterOwnerStore Entrant.Trier How.Free) in
    let is = exchanged_none 0 t ps s.table_seat.number f.result (oldest_in f.new.seat.moving) c.if-found-eq0.true in
    let first = course_next g.T.Kept.follows g.T.Kept.fits s.table_seat.number p0 s.table_seat.moving s.table_seat.place.me.0 s.table_seat.place.table_id.words s.table_seat.place.id s.table_seat.limits p0 f.result s.table_seat.place.me s.table_seat.moving f.new.seat.place.me f.new.seat.moving f.new.seat.place.table_id.words f.new.seat.place.id (opens q) (course_none g.T.Kept.follows g.T.Kept.fits s.table_seat.number p0 s.table_seat.moving s.table_seat.place.me.0) fit (told_before f.ensures.same f.ensures.step) is (λ e. cc) refl in
    let between = fit_after g.T.Kept.follows g.T.Kept.fits s.table_seat.number f.new.seat.place.table_id.words f.new.seat.place.id s.table_seat.limits p0 f.result s.table_seat.place.me s.table_seat.moving f.new.seat.place.me f.new.seat.moving (told_before f.ensures.same f.ensures.step) (opens q) is in
    let last = course_next g.T.Kept.follows g.T.Kept.fits s.table_seat.number p0 s.table_seat.moving s.table_seat.place.me.0 f.new.seat.place.table_id.words f.new.seat.place.id s.table_seat.limits q h.result f.new.seat.place.me f.new.seat.moving h.new.seat.place.me h.new.seat.moving h.new.seat.place.table_id.words h.new.seat.place.id (stepped_by q s.table_seat.number h.result (oldest_in h.new.seat.moving)) first between (told_before (same_then f.ensures.same h.ensures.same) h.ensures.step) refl (λ e. cc) refl in
    subst (λ (x : SeatState). ComesTo g.T.Kept.follows g.T.Kept.fits c.args.mutex.now.limits Call.TryLock (sight_of s.table_seat.number s.state s.table_seat.place.me.0 (value_in s.table_seat.moving)) (sight_of h.new.seat.number x h.new.seat.place.me.0 (value_in h.new.seat.moving)) (Ended (Answer.Locked (Locked.Held How.Free))))
    (λ i. record { depth = 1; takes = t; posts = ps; point = sym c.requires.may.rests i })
    (comes g.T.Kept.follows g.T.Kept.fits s.table_seat.number p0 s.table_seat.moving s.table_seat.place.me.0 h.new.seat.number s.table_seat.limits c.args.mutex.now.limits Call.TryLock s.state (made_of 1 t ps Rest) (Ended (Answer.Locked (Locked.Held How.Free))) h.new.seat.moving h.new.seat.place.me.0 c.requires.belongs.1 (same_then f.ensures.same h.ensures.same).0 refl begins refl last)

pub returns-then-is_posted_in-clause-made : goal.returns-then-is_posted_in-clause-made
returns-then-is_posted_in-clause-made g c =
    let s = c.args.seat.now in let t = s.state.takes + 1 in let ps = s.state.posts in
    let p0 = made_of 0 t ps TryCountExchange in
    let begins = begins_try_free s.state s.table_seat.limits c.requires.may.rests c.requires.may.flat c.requires.may.charged in
    let fit = fit_begun s.table_seat.number s.table_seat.place.table_id.words s.table_seat.place.id s.table_seat.limits s.table_seat.place.me s.table_seat.moving s.state p0 Call.TryLock (record { seated = s.seated; became = s.became; ready = s.ready; rooted = s.rooted }) begins in
    let f = c.gain-found in
    let h = c.load_other_owner in let k = c.keep-handoff in
    let p1 = made_of 0 t ps TryOwnerLoad in let p2 = made_of 0 t ps TryHandoffLoad in
    let is1 = exchanged_some 0 t ps s.table_seat.number f.result (oldest_in f.new.seat.moving) c.if-found-eq0.false in
    let is2 = try_not_owned 0 t ps s.table_seat.number h.result (oldest_in h.new.seat.moving) (λ e. h.ensures.other (e ∙ sym f.ensures.same.0)) in
    let first = course_next g.T.Kept.follows g.T.Kept.fits s.table_seat.number p0 s.table_seat.moving s.table_seat.place.me.0 s.table_seat.place.table_id.words s.table_seat.place.id s.table_seat.limits p0 f.result s.table_seat.place.me s.table_seat.moving f.new.seat.place.me f.new.seat.moving f.new.seat.place.table_id.words f.new.seat.place.id (opens p1) (course_none g.T.Kept.follows g.T.Kept.fits s.table_seat.number p0 s.table_seat.moving s.table_seat.place.me.0) fit (told_before f.ensures.same f.ensures.step) is1 (λ e. cc) refl in
    let fit1 = fit_after g.T.Kept.follows g.T.Kept.fits s.table_seat.number f.new.seat.place.table_id.words f.new.seat.place.id s.table_seat.limits p0 f.result s.table_seat.place.me s.table_seat.moving f.new.seat.place.me f.new.seat.moving (told_before f.ensures.same f.ensures.step) (opens p1) is1 in
    let second = course_next g.T.Kept.follows g.T.Kept.fits s.table_seat.number p0 s.table_seat.moving s.table_seat.place.me.0 f.new.seat.place.table_id.words f.new.seat.place.id s.table_seat.limits p1 h.result f.new.seat.place.me f.new.seat.moving h.new.seat.place.me h.new.seat.moving h.new.seat.place.table_id.words h.new.seat.place.id (opens p2) first fit1 (told_before (same_then f.ensures.same h.ensures.same) h.ensures.step) is2 (λ e. cc) refl in
    let fit2 = fit_after g.T.Kept.follows g.T.Kept.fits s.table_seat.number h.new.seat.place.table_id.words h.new.seat.place.id s.table_seat.limits p1 h.result f.new.seat.place.me f.new.seat.moving h.new.seat.place.me h.new.seat.moving (told_before (same_then f.ensures.same h.ensures.same) h.ensures.step) (opens p2) is2 in
    let q = made_of 0 t ps (TryHandoffExchange (handoff_of k.result)) in let r = c.finish_try.new.seat in
    let is3 = posted 0 t ps s.table_seat.number k.result (oldest_in k.new.seat.moving) (sym c.is_posted_in.ensures ∙ c.if-is_posted_in.true) in
    let third = course_next g.T.Kept.follows g.T.Kept.fits s.table_seat.number p0 s.table_seat.moving s.table_seat.place.me.0 h.new.seat.place.table_id.words h.new.seat.place.id s.table_seat.limits p2 k.result h.new.seat.place.me h.new.seat.moving k.new.seat.place.me k.new.seat.moving k.new.seat.place.table_id.words k.new.seat.place.id (opens q) second fit2 (told_before (same_then (same_then f.ensures.same h.ensures.same) k.ensures.same) k.ensures.step) is3 (λ e. cc) refl in
    let at : c.stop_at_post.new.state ≡ q = c.stop_at_post.ensures ∙ (λ i. record { depth = c.requires.may.flat i; takes = t; posts = ps; point = TryHandoffExchange (handoff_of k.result) }) in
    let last = course_join g.T.Kept.follows g.T.Kept.fits s.table_seat.number p0 s.table_seat.moving s.table_seat.place.me.0 q r.state k.new.seat.moving r.table_seat.moving k.new.seat.place.me.0 r.table_seat.place.me.0 (try_turn c.finish_try.result) third
    (subst (λ (x : SeatState). Course g.T.Kept.follows g.T.Kept.fits s.table_seat.number x k.new.seat.moving k.new.seat.place.me.0 (try_turn c.finish_try.result) r.state r.table_seat.moving r.table_seat.place.me.0) at (course_same (same_then (same_then f.ensures.same h.ensures.same) k.ensures.same).0 c.finish_try.ensures.made)) in
    comes g.T.Kept.follows g.T.Kept.fits s.table_seat.number p0 s.table_seat.moving s.table_seat.place.me.0 r.table_seat.number s.table_seat.limits c.args.mutex.now.limits Call.TryLock s.state r.state (try_turn c.finish_try.result) r.table_seat.moving r.table_seat.place.me.0 c.requires.belongs.1 (c.finish_try.ensures.kept.same.0 ∙ (same_then (same_then f.ensures.same h.ensures.same) k.ensures.same).0) refl begins c.finish_try.ensures.ends last

pub returns-clause-made : goal.returns-clause-made
returns-clause-made g c =
    let s = c.args.seat.now in let t = s.state.takes + 1 in let ps = s.state.posts in
    let p0 = made_of 0 t ps TryCountExchange in
    let begins = begins_try_free s.state s.table_seat.limits c.requires.may.rests c.requires.may.flat c.requires.may.charged in
    let fit = fit_begun s.table_seat.number s.table_seat.place.table_id.words s.table_seat.place.id s.table_seat.limits s.table_seat.place.me s.table_seat.moving s.state p0 Call.TryLock (record { seated = s.seated; became = s.became; ready = s.ready; rooted = s.rooted }) begins in
    let f = c.gain-found in
    let h = c.load_other_owner in let k = c.keep-handoff in
    let p1 = made_of 0 t ps TryOwnerLoad in let p2 = made_of 0 t ps TryHandoffLoad in
    let is1 = exchanged_some 0 t ps s.table_seat.number f.result (oldest_in f.new.seat.moving) c.if-found-eq0.false in
    let is2 = try_not_owned 0 t ps s.table_seat.number h.result (oldest_in h.new.seat.moving) (λ e. h.ensures.other (e ∙ sym f.ensures.same.0)) in
    let first = course_next g.T.Kept.follows g.T.Kept.fits s.table_seat.number p0 s.table_seat.moving s.table_seat.place.me.0 s.table_seat.place.table_id.words s.table_seat.place.id s.table_seat.limits p0 f.result s.table_seat.place.me s.table_seat.moving f.new.seat.place.me f.new.seat.moving f.new.seat.place.table_id.words f.new.seat.place.id (opens p1) (course_none g.T.Kept.follows g.T.Kept.fits s.table_seat.number p0 s.table_seat.moving s.table_seat.place.me.0) fit (told_before f.ensures.same f.ensures.step) is1 (λ e. cc) refl in
    let fit1 = fit_after g.T.Kept.follows g.T.Kept.fits s.table_seat.number f.new.seat.place.table_id.words f.new.seat.place.id s.table_seat.limits p0 f.result s.table_seat.place.me s.table_seat.moving f.new.seat.place.me f.new.seat.moving (told_before f.ensures.same f.ensures.step) (opens p1) is1 in
    let second = course_next g.T.Kept.follows g.T.Kept.fits s.table_seat.number p0 s.table_seat.moving s.table_seat.place.me.0 f.new.seat.place.table_id.words f.new.seat.place.id s.table_seat.limits p1 h.result f.new.seat.place.me f.new.seat.moving h.new.seat.place.me h.new.seat.moving h.new.seat.place.table_id.words h.new.seat.place.id (opens p2) first fit1 (told_before (same_then f.ensures.same h.ensures.same) h.ensures.step) is2 (λ e. cc) refl in
    let fit2 = fit_after g.T.Kept.follows g.T.Kept.fits s.table_seat.number h.new.seat.place.table_id.words h.new.seat.place.id s.table_seat.limits p1 h.result f.new.seat.place.me f.new.seat.moving h.new.seat.place.me h.new.seat.moving (told_before (same_then f.ensures.same h.ensures.same) h.ensures.step) (opens p2) is2 in
    let is3 = unposted 0 t ps s.table_seat.number k.result (oldest_in k.new.seat.moving) (sym c.is_posted_in.ensures ∙ c.if-is_posted_in.false) in
    let back : t - 1 ≡ s.state.takes = omega arith in
    let q = made_of 0 (t - 1) ps Rest in let turn = Refused (Why.By Refusal.Busy) in
    let third = course_next g.T.Kept.follows g.T.Kept.fits s.table_seat.number p0 s.table_seat.moving s.table_seat.place.me.0 h.new.seat.place.table_id.words h.new.seat.place.id s.table_seat.limits p2 k.result h.new.seat.place.me h.new.seat.moving k.new.seat.place.me k.new.seat.moving k.new.seat.place.table_id.words k.new.seat.place.id (record { seat = q; turn = turn }) second fit2 (told_before (same_then (same_then f.ensures.same h.ensures.same) k.ensures.same) k.ensures.step) is3 (λ e. cc) refl in
    subst (λ (x : SeatState). ComesTo g.T.Kept.follows g.T.Kept.fits c.args.mutex.now.limits Call.TryLock (sight_of s.table_seat.number s.state s.table_seat.place.me.0 (value_in s.table_seat.moving)) (sight_of k.new.seat.number x k.new.seat.place.me.0 (value_in k.new.seat.moving)) turn)
    (λ i. record { depth = sym c.requires.may.flat i; takes = back i; posts = ps; point = sym c.requires.may.rests i })
    (comes g.T.Kept.follows g.T.Kept.fits s.table_seat.number p0 s.table_seat.moving s.table_seat.place.me.0 k.new.seat.number s.table_seat.limits c.args.mutex.now.limits Call.TryLock s.state q turn k.new.seat.moving k.new.seat.place.me.0 c.requires.belongs.1 (same_then (same_then f.ensures.same h.ensures.same) k.ensures.same).0 refl begins refl third)

pub invariant_of-seat-then-is_posted_in : goal.invariant_of-seat-then-is_posted_in
invariant_of-seat-then-is_posted_in g c =
    let s = c.args.seat.now in let t = s.state.takes + 1 in let ps = s.state.posts in
    let k = c.keep-handoff in
    let q = made_of 0 t ps (TryHandoffExchange (handoff_of k.result)) in
    let at : c.stop_at_post.new.state ≡ q = c.stop_at_post.ensures ∙ (λ i. record { depth = c.requires.may.flat i; takes = t; posts = ps; point = TryHandoffExchange (handoff_of k.result) }) in
    let fit = subst (λ (x : SeatState). IsBetweenSteps k.new.seat x) (ap (λ (z : Stepped). z.seat) (posted 0 t ps k.new.seat.number k.result (oldest_in k.new.seat.moving) (sym c.is_posted_in.ensures ∙ c.if-is_posted_in.true)) ∙ sym at) k.ensures.step.fit in
    record { seated = fit.seated; became = fit.became; ready = fit.ready; rooted = fit.rooted }

pub returns-then-found-eq0-clause-acts : goal.returns-then-found-eq0-clause-acts
returns-then-found-eq0-clause-acts g c = record { belongs = search rules; run = run_next (run_made c.gain-found.ensures.step) (run_made c.keep_held.ensures.step); woken = search rules }

pub returns-then-is_posted_in-clause-acts : goal.returns-then-is_posted_in-clause-acts
returns-then-is_posted_in-clause-acts g c =
    record { belongs = search rules; woken = search rules; run = run_next (run_made c.gain-found.ensures.step) (run_next (run_made c.load_other_owner.ensures.step) (run_next (run_made c.keep-handoff.ensures.step) c.finish_try.ensures.made.ran.run)) }

pub returns-clause-acts : goal.returns-clause-acts
returns-clause-acts g c =
    record { belongs = search rules; woken = search rules; run = run_next (run_made c.gain-found.ensures.step) (run_next (run_made c.load_other_owner.ensures.step) (run_made c.keep-handoff.ensures.step)) }
