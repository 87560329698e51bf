use Rattle.std.proofs.Common.{rules, ◌+◌, ◌∙◌, refl, sym, subst}
use Rattle.lfm_model.specs.declared.answers.Locked.{Locked}
use Rattle.lfm_model.specs.declared.answers.How.{How}
use Rattle.lfm_protocol.specs.declared.answers.Answer.{Answer}
use Rattle.lfm_protocol.specs.declared.answers.Call.{Call}
use Rattle.lfm_protocol.specs.declared.answers.Turn.TheVariants.{Ended}
use Rattle.lfm_protocol.specs.declared.points.Entrant.{Entrant}
use Rattle.lfm_protocol.specs.declared.points.Point.TheVariants.{Rest, TryCountExchange, TryOwnerLoad, EnterOwnerStore}
use Rattle.lfm_protocol.specs.declared.seats.SeatState.{SeatState}
use Rattle.lfm_table.specs.Rule.{value_in}
use Rattle.lfm_mutex.specs.calls.Runs.{opens}
use Rattle.lfm_mutex.specs.calls.Sight.{sight_of}
use Rattle.lfm_table.specs.Steps.{oldest_in}
use Rattle.lfm_mutex.specs.calls.FastPath.{Course, ComesTo, try_turn}
use Rattle.lfm_mutex.proofs.runs.Courses.{course_none, course_next, course_join, comes}
use Rattle.lfm_table.proofs.tables.StepFacts.{made_of}
use Rattle.lfm_mutex.proofs.runs.FastPathPoints.{begins_try_again, fit_begun, exchanged_none, exchanged_some, try_owned, fit_after}
use Rattle.lfm_table.proofs.tables.Actions.{run_next}
use Rattle.lfm_mutex.proofs.runs.RunGoesOn.{run_made}
use Rattle.lfm_table.proofs.tables.FastPathSteps.{told_before, same_then}
use Rattle.lfm_mutex.proofs.runs.SameSeats.{course_same}
use Rattle.lfm_mutex.proofs.try_lock.try_with_hold.Goals as goal

pub returns-then-found-eq0-clause-made : goal.returns-then-found-eq0-clause-made
returns-then-found-eq0-clause-made g c =
    let s = c.args.seat.now in let d = s.state.depth in let t = s.state.takes in let ps = s.state.posts in
    let p0 = made_of d t ps TryCountExchange in
    let begins = begins_try_again s.state s.table_seat.limits c.requires.may.rests c.requires.may.held c.requires.may.room in
    let fit = fit_begun s.table_seat.number s.table_seat.place.table_id.words s.table_seat.place.id s.table_seat.limits s.table_seat.place.me s.table_seat.moving s.state p0 Call.TryLock (record { seated = s.seated; became = s.became; ready = s.ready; rooted = s.rooted }) begins in
    let f = c.keep_held-found in
    let q = made_of d t ps (EnterOwnerStore Entrant.Trier How.Free) in let r = c.finish_try.new.seat in
    let first = course_next g.T.Kept.follows g.T.Kept.fits s.table_seat.number p0 s.table_seat.moving s.table_seat.place.me.0 s.table_seat.place.table_id.words s.table_seat.place.id s.table_seat.limits p0 f.result s.table_seat.place.me s.table_seat.moving f.new.seat.place.me f.new.seat.moving f.new.seat.place.table_id.words f.new.seat.place.id (opens q) (course_none g.T.Kept.follows g.T.Kept.fits s.table_seat.number p0 s.table_seat.moving s.table_seat.place.me.0) fit (told_before f.ensures.same f.ensures.step) (exchanged_none d t ps s.table_seat.number f.result (oldest_in f.new.seat.moving) c.if-found-eq0.true) (λ e. cc) refl in
    let last = course_join g.T.Kept.follows g.T.Kept.fits s.table_seat.number p0 s.table_seat.moving s.table_seat.place.me.0 q r.state f.new.seat.moving r.table_seat.moving f.new.seat.place.me.0 r.table_seat.place.me.0 (try_turn c.finish_try.result) first
    (subst (λ (x : SeatState). Course g.T.Kept.follows g.T.Kept.fits s.table_seat.number x f.new.seat.moving f.new.seat.place.me.0 (try_turn c.finish_try.result) r.state r.table_seat.moving r.table_seat.place.me.0) c.stop_at.ensures (course_same f.ensures.same.0 c.finish_try.ensures.made)) in
    comes g.T.Kept.follows g.T.Kept.fits s.table_seat.number p0 s.table_seat.moving s.table_seat.place.me.0 r.table_seat.number s.table_seat.limits c.args.mutex.now.limits Call.TryLock s.state r.state (try_turn c.finish_try.result) r.table_seat.moving r.table_seat.place.me.0 c.requires.belongs.1 (c.finish_try.ensures.kept.same.0 ∙ f.ensures.same.0) refl begins c.finish_try.ensures.ends last

pub returns-clause-made : goal.returns-clause-made
returns-clause-made g c =
    let s = c.args.seat.now in let d = s.state.depth in let t = s.state.takes in let ps = s.state.posts in
    let p0 = made_of d t ps TryCountExchange in
    let begins = begins_try_again s.state s.table_seat.limits c.requires.may.rests c.requires.may.held c.requires.may.room in
    let fit = fit_begun s.table_seat.number s.table_seat.place.table_id.words s.table_seat.place.id s.table_seat.limits s.table_seat.place.me s.table_seat.moving s.state p0 Call.TryLock (record { seated = s.seated; became = s.became; ready = s.ready; rooted = s.rooted }) begins in
    let f = c.keep_held-found in
    let h = c.keep_held-owner in
    let p1 = made_of d t ps TryOwnerLoad in
    let is1 = exchanged_some d t ps s.table_seat.number f.result (oldest_in f.new.seat.moving) c.if-found-eq0.false in
    let is2 = try_owned d t ps s.table_seat.number h.result (oldest_in h.new.seat.moving) c.if-owner-number.false in
    let first = course_next g.T.Kept.follows g.T.Kept.fits s.table_seat.number p0 s.table_seat.moving s.table_seat.place.me.0 s.table_seat.place.table_id.words s.table_seat.place.id s.table_seat.limits p0 f.result s.table_seat.place.me s.table_seat.moving f.new.seat.place.me f.new.seat.moving f.new.seat.place.table_id.words f.new.seat.place.id (opens p1) (course_none g.T.Kept.follows g.T.Kept.fits s.table_seat.number p0 s.table_seat.moving s.table_seat.place.me.0) fit (told_before f.ensures.same f.ensures.step) is1 (λ e. cc) refl in
    let fit1 = fit_after g.T.Kept.follows g.T.Kept.fits s.table_seat.number f.new.seat.place.table_id.words f.new.seat.place.id s.table_seat.limits p0 f.result s.table_seat.place.me s.table_seat.moving f.new.seat.place.me f.new.seat.moving (told_before f.ensures.same f.ensures.step) (opens p1) is1 in
    let last = course_next g.T.Kept.follows g.T.Kept.fits s.table_seat.number p0 s.table_seat.moving s.table_seat.place.me.0 f.new.seat.place.table_id.words f.new.seat.place.id s.table_seat.limits p1 h.result f.new.seat.place.me f.new.seat.moving h.new.seat.place.me h.new.seat.moving h.new.seat.place.table_id.words h.new.seat.place.id (record { seat = made_of (d + 1) t ps Rest; turn = Ended (Answer.Locked (Locked.Again (d + 1))) }) first fit1 (told_before (same_then f.ensures.same h.ensures.same) h.ensures.step) is2 (λ e. cc) refl in
    subst (λ (x : SeatState). ComesTo g.T.Kept.follows g.T.Kept.fits c.args.mutex.now.limits Call.TryLock (sight_of s.table_seat.number s.state s.table_seat.place.me.0 (value_in s.table_seat.moving)) (sight_of h.new.seat.number x h.new.seat.place.me.0 (value_in h.new.seat.moving)) (Ended (Answer.Locked (Locked.Again (d + 1)))))
    (λ i. record { depth = d + 1; takes = t; posts = ps; point = sym c.requires.may.rests i })
    (comes g.T.Kept.follows g.T.Kept.fits s.table_seat.number p0 s.table_seat.moving s.table_seat.place.me.0 h.new.seat.number s.table_seat.limits c.args.mutex.now.limits Call.TryLock s.state (made_of (d + 1) t ps Rest) (Ended (Answer.Locked (Locked.Again (d + 1)))) h.new.seat.moving h.new.seat.place.me.0 c.requires.belongs.1 (same_then f.ensures.same h.ensures.same).0 refl begins refl last)

pub returns-then-found-eq0-clause-acts : goal.returns-then-found-eq0-clause-acts
returns-then-found-eq0-clause-acts g c = record { belongs = search rules; run = run_next (run_made c.keep_held-found.ensures.step) c.finish_try.ensures.made.ran.run; woken = search rules }

pub returns-clause-acts : goal.returns-clause-acts
returns-clause-acts g c =
    record { belongs = search rules; woken = search rules; run = run_next (run_made c.keep_held-found.ensures.step) (run_made c.keep_held-owner.ensures.step) }
