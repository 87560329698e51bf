use Rattle.std.proofs.Common.{rules, ℕ, refl, sym, ap, subst, ◌∙◌, arith, Some, None}
use Rattle.std.proofs.lemmas.Bool.{leb-true, leb-false}
use Rattle.lfm_model.specs.declared.answers.How.{How}
use Rattle.lfm_protocol.specs.declared.answers.Answer.{Answer}
use Rattle.lfm_protocol.specs.declared.answers.Call.{Call}
use Rattle.lfm_protocol.specs.declared.answers.Turn.TheVariants.{Ended}
use Rattle.lfm_protocol.specs.declared.points.Entrant.{Entrant}
use Rattle.lfm_protocol.specs.declared.points.Point.TheVariants.{Rest, Asleep, ReceiveWakeLoad, ReceiveWakeStore, EnterOwnerStore}
use Rattle.lfm_protocol.specs.declared.seats.SeatState.{SeatState}
use Rattle.lfm_laws.specs.table.Words.{stepped_by}
use Rattle.lfm_table.specs.Rule.{value_in}
use Rattle.lfm_mutex.specs.calls.Runs.{opens}
use Rattle.lfm_mutex.specs.calls.Sight.{sight_of}
use Rattle.lfm_table.specs.Steps.{oldest_in}
use Rattle.lfm_mutex.specs.calls.FastPath.{ComesTo}
use Rattle.lfm_mutex.proofs.runs.Courses.{course_none, course_next, comes}
use Rattle.lfm_table.proofs.tables.StepFacts.{made_of}
use Rattle.lfm_mutex.proofs.runs.FastPathPoints.{fit_begun, fit_after}
use Rattle.lfm_mutex.proofs.runs.ReceivePoints.{begins_receive, granted, not_granted, quieted}
use Rattle.lfm_table.proofs.tables.Actions.{run_next}
use Rattle.lfm_mutex.proofs.runs.RunGoesOn.{run_made}
use Rattle.lfm_table.proofs.tables.FastPathSteps.{told_before, same_then}
use Rattle.lfm_mutex.proofs.receive.receive_asleep.Goals as goal

pub returns-then-not-is_grant_word-clause-made : goal.returns-then-not-is_grant_word-clause-made
returns-then-not-is_grant_word-clause-made g c =
    let s = c.args.seat.now in let t = s.state.takes in let ps = s.state.posts in let w = c.args.sleeper in
    let p0 = made_of 0 t ps (ReceiveWakeLoad w) in
    let begins = begins_receive s.state s.table_seat.limits w c.requires.sleeps c.requires.flat in
    let fit = fit_begun s.table_seat.number s.table_seat.place.table_id.words s.table_seat.place.id s.table_seat.limits s.table_seat.place.me s.table_seat.moving s.state p0 Call.Receive (record { seated = s.seated; became = s.became; ready = s.ready; rooted = s.rooted }) begins in
    let f = c.gain_by_grant-found in let q = made_of 0 t ps (Asleep w) in let turn = Ended (Answer.Got None) in
    let is = not_granted t ps s.table_seat.number f.result (oldest_in f.new.seat.moving) w (omega (arith, leb-false 3 f.result (sym c.if-not-is_grant_word.ensures))) in
    let first = course_next g.T.Kept.follows g.T.Kept.fits s.table_seat.number p0 s.table_seat.moving s.table_seat.place.me.0 s.table_seat.place.table_id.words s.table_seat.place.id s.table_seat.limits p0 f.result s.table_seat.place.me s.table_seat.moving f.new.seat.place.me f.new.seat.moving f.new.seat.place.table_id.words f.new.seat.place.id (record { seat = q; turn = turn }) (course_none g.T.Kept.follows g.T.Kept.fits s.table_seat.number p0 s.table_seat.moving s.table_seat.place.me.0) fit (told_before f.ensures.same f.ensures.step) is (λ e. cc) refl in
    subst (λ (x : SeatState). ComesTo g.T.Kept.follows g.T.Kept.fits c.args.mutex.now.limits Call.Receive (sight_of s.table_seat.number s.state s.table_seat.place.me.0 (value_in s.table_seat.moving)) (sight_of f.new.seat.number x f.new.seat.place.me.0 (value_in f.new.seat.moving)) turn)
    (λ i. record { depth = sym c.requires.flat i; takes = t; posts = ps; point = sym c.requires.sleeps i })
    (comes g.T.Kept.follows g.T.Kept.fits s.table_seat.number p0 s.table_seat.moving s.table_seat.place.me.0 f.new.seat.number s.table_seat.limits c.args.mutex.now.limits Call.Receive s.state q turn f.new.seat.moving f.new.seat.place.me.0 c.requires.belongs.1 f.ensures.same.0 refl begins refl first)

pub returns-clause-made : goal.returns-clause-made
returns-clause-made g c =
    let s = c.args.seat.now in let t = s.state.takes in let ps = s.state.posts in let w = c.args.sleeper in
    let p0 = made_of 0 t ps (ReceiveWakeLoad w) in
    let begins = begins_receive s.state s.table_seat.limits w c.requires.sleeps c.requires.flat in
    let fit = fit_begun s.table_seat.number s.table_seat.place.table_id.words s.table_seat.place.id s.table_seat.limits s.table_seat.place.me s.table_seat.moving s.state p0 Call.Receive (record { seated = s.seated; became = s.became; ready = s.ready; rooted = s.rooted }) begins in
    let f = c.gain_by_grant-found in let h = c.keep in let k = c.keep_held in
    let stamp = c.grant_stamp-stamp.result in let how = c.how_granted-how.result in
    let p1 = made_of 0 t ps (ReceiveWakeStore stamp) in let p2 = made_of 0 t ps (EnterOwnerStore Entrant.Receiver how) in
    let is1 = granted t ps s.table_seat.number f.result (oldest_in f.new.seat.moving) w (omega (arith, leb-true 3 f.result (sym c.if-not-is_grant_word.ensures))) ∙ ap (λ (x : ℕ). opens (made_of 0 t ps (ReceiveWakeStore x))) (sym c.grant_stamp-stamp.ensures) in
    let is2 = quieted t ps stamp s.table_seat.number h.result (oldest_in h.new.seat.moving) ∙ ap (λ (x : How). opens (made_of 0 t ps (EnterOwnerStore Entrant.Receiver x))) (sym c.how_granted-how.ensures) in
    let first = course_next g.T.Kept.follows g.T.Kept.fits s.table_seat.number p0 s.table_seat.moving s.table_seat.place.me.0 s.table_seat.place.table_id.words s.table_seat.place.id s.table_seat.limits p0 f.result s.table_seat.place.me s.table_seat.moving f.new.seat.place.me f.new.seat.moving f.new.seat.place.table_id.words f.new.seat.place.id (opens p1) (course_none g.T.Kept.follows g.T.Kept.fits s.table_seat.number p0 s.table_seat.moving s.table_seat.place.me.0) fit (told_before f.ensures.same f.ensures.step) is1 (λ e. cc) refl in
    let fit1 = fit_after g.T.Kept.follows g.T.Kept.fits s.table_seat.number f.new.seat.place.table_id.words f.new.seat.place.id s.table_seat.limits p0 f.result s.table_seat.place.me s.table_seat.moving f.new.seat.place.me f.new.seat.moving (told_before f.ensures.same f.ensures.step) (opens p1) is1 in
    let second = course_next g.T.Kept.follows g.T.Kept.fits s.table_seat.number p0 s.table_seat.moving s.table_seat.place.me.0 f.new.seat.place.table_id.words f.new.seat.place.id s.table_seat.limits p1 h.result f.new.seat.place.me f.new.seat.moving h.new.seat.place.me h.new.seat.moving h.new.seat.place.table_id.words h.new.seat.place.id (opens p2) first fit1 (told_before (same_then f.ensures.same h.ensures.same) h.ensures.step) is2 (λ e. cc) refl in
    let fit2 = fit_after g.T.Kept.follows g.T.Kept.fits s.table_seat.number h.new.seat.place.table_id.words h.new.seat.place.id s.table_seat.limits p1 h.result f.new.seat.place.me f.new.seat.moving h.new.seat.place.me h.new.seat.moving (told_before (same_then f.ensures.same h.ensures.same) h.ensures.step) (opens p2) is2 in
    let third = course_next g.T.Kept.follows g.T.Kept.fits s.table_seat.number p0 s.table_seat.moving s.table_seat.place.me.0 h.new.seat.place.table_id.words h.new.seat.place.id s.table_seat.limits p2 k.result h.new.seat.place.me h.new.seat.moving k.new.seat.place.me k.new.seat.moving k.new.seat.place.table_id.words k.new.seat.place.id (stepped_by p2 s.table_seat.number k.result (oldest_in k.new.seat.moving)) second fit2 (told_before (same_then (same_then f.ensures.same h.ensures.same) k.ensures.same) k.ensures.step) refl (λ e. cc) refl in
    comes g.T.Kept.follows g.T.Kept.fits s.table_seat.number p0 s.table_seat.moving s.table_seat.place.me.0 k.new.seat.number s.table_seat.limits c.args.mutex.now.limits Call.Receive s.state (made_of 1 t ps Rest) (Ended (Answer.Got (Some how))) k.new.seat.moving k.new.seat.place.me.0 c.requires.belongs.1 (same_then (same_then f.ensures.same h.ensures.same) k.ensures.same).0 refl begins refl third

pub returns-then-not-is_grant_word-clause-acts : goal.returns-then-not-is_grant_word-clause-acts
returns-then-not-is_grant_word-clause-acts g c = record { belongs = search rules; run = run_made c.gain_by_grant-found.ensures.step; woken = search rules }

pub returns-clause-acts : goal.returns-clause-acts
returns-clause-acts g c =
    record { belongs = search rules; woken = search rules; run = run_next (run_made c.gain_by_grant-found.ensures.step) (run_next (run_made c.keep.ensures.step) (run_made c.keep_held.ensures.step)) }
