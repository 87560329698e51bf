use Rattle.std.proofs.Common.{rules, ◌≡◌, refl, sym, ap, subst, ◌∙◌}
use Rattle.lfm_model.specs.declared.answers.Unlocked.{Unlocked}
use Rattle.lfm_words.specs.declared.pop_lists.Record.{Record}
use Rattle.lfm_protocol.specs.declared.answers.Answer.{Answer}
use Rattle.lfm_protocol.specs.declared.answers.Turn.TheVariants.{Ended}
use Rattle.lfm_protocol.specs.declared.points.Carrier.{Carrier}
use Rattle.lfm_protocol.specs.declared.points.Point.TheVariants.{Asleep, GrantWakeStore, Rest, WaitWakeStore}
use Rattle.lfm_protocol.specs.declared.points.Releaser.{Releaser}
use Rattle.lfm_protocol.specs.declared.points.Sleeper.{Sleeper}
use Rattle.lfm_protocol.specs.declared.seats.SeatState.{SeatState}
use Rattle.lfm_protocol.specs.After.{releases}
use Rattle.lfm_laws.specs.table.Ready.{IsReady}
use Rattle.lfm_table.specs.Steps.{oldest_in}
use Rattle.lfm_table.specs.FastPath.{Fit}
use Rattle.lfm_mutex.specs.calls.Runs.{opens}
use Rattle.lfm_mutex.specs.calls.FastPath.{Course, release_turn}
use Rattle.lfm_mutex.proofs.runs.Courses.{course_none, course_next}
use Rattle.lfm_mutex.proofs.runs.ServePoints.{granted_to, waited}
use Rattle.lfm_mutex.proofs.runs.FastPathPoints.{fit_after}
use Rattle.lfm_table.proofs.tables.StepFacts.{made_of}
use Rattle.lfm_mutex.proofs.runs.WakeUps.{grants_none, wakes_one}
use Rattle.lfm_table.proofs.tables.FastPathSteps.{told_before, same_then}
use Rattle.lfm_mutex.proofs.serve.grant.Goals as goal

pub returns-in-Unlocker-clause-finishes : goal.returns-in-Unlocker-clause-finishes
returns-in-Unlocker-clause-finishes g c =
    let s = c.args.seat.now in let t = s.state.takes in let ps = s.state.posts in let f = c.store_grant-wake_up in let u = c.args.releaser in
    let r : Record = record { seat = c.args.oldest.seat; stamp = c.args.oldest.stamp } in
    let p0 = made_of 0 t ps (GrantWakeStore (Carrier.Releaser u) r) in
    let at : s.state ≡ p0 = (λ i. record { depth = c.requires.flat i; takes = t; posts = ps; point = c.requires.stands i }) in
    record {
      kept = search rules;
      made = let fit = subst (λ (x : SeatState). Fit s.table_seat.number s.table_seat.place.table_id.words s.table_seat.place.id s.table_seat.limits x s.table_seat.place.me s.table_seat.moving) at (record { seated = s.seated; became = s.became; ready = s.ready; rooted = s.rooted }) in
          let is = granted_to u 0 t ps s.table_seat.number f.ensures.step.0 r (oldest_in f.new.seat.moving) ∙ ap (λ (z : Releaser). releases p0 z (Unlocked.Granted r.seat)) c.in-Unlocker.is in
          let so = course_next g.T.Kept.follows g.T.Kept.fits s.table_seat.number p0 s.table_seat.moving s.table_seat.place.me.0 s.table_seat.place.table_id.words s.table_seat.place.id s.table_seat.limits p0 f.ensures.step.0 s.table_seat.place.me s.table_seat.moving f.new.seat.place.me f.new.seat.moving f.new.seat.place.table_id.words f.new.seat.place.id (record { seat = made_of 0 t ps Rest; turn = Ended (Answer.Unlocked (Unlocked.Granted r.seat)) })
          (course_none g.T.Kept.follows g.T.Kept.fits s.table_seat.number p0 s.table_seat.moving s.table_seat.place.me.0) fit (told_before f.ensures.same f.ensures.step.1) is (λ e. cc) refl in
          subst (λ (x : SeatState). Course g.T.Kept.follows g.T.Kept.fits s.table_seat.number x s.table_seat.moving s.table_seat.place.me.0 (release_turn u (Unlocked.Granted r.seat)) (record x { point = Rest }) f.new.seat.moving f.new.seat.place.me.0) (sym at)
          (subst (λ (z : Releaser). Course g.T.Kept.follows g.T.Kept.fits s.table_seat.number p0 s.table_seat.moving s.table_seat.place.me.0 (release_turn z (Unlocked.Granted r.seat)) (made_of 0 t ps Rest) f.new.seat.moving f.new.seat.place.me.0) (sym c.in-Unlocker.is) so);
      wakes = wakes_one g.T.Kept.follows g.T.Kept.fits _ _ _ _ _ _ _ (told_before f.ensures.same f.ensures.step.1).event s.table_seat.limits.seats s.table_seat.number f.result f.ensures.wakes (subst (λ (x : SeatState). IsReady s.table_seat.limits.seats s.table_seat.number x) at s.ready);
    }

pub returns-in-Waiter-clause-finishes : goal.returns-in-Waiter-clause-finishes
returns-in-Waiter-clause-finishes g c =
    let s = c.args.seat.now in let t = s.state.takes in let ps = s.state.posts in let f = c.store_grant-wake_up in let u = c.args.releaser in
    let r : Record = record { seat = c.args.oldest.seat; stamp = c.args.oldest.stamp } in
    let p0 = made_of 0 t ps (GrantWakeStore (Carrier.Releaser u) r) in
    let at : s.state ≡ p0 = (λ i. record { depth = c.requires.flat i; takes = t; posts = ps; point = c.requires.stands i }) in
    record {
      kept = search rules;
      made = let fit = subst (λ (x : SeatState). Fit s.table_seat.number s.table_seat.place.table_id.words s.table_seat.place.id s.table_seat.limits x s.table_seat.place.me s.table_seat.moving) at (record { seated = s.seated; became = s.became; ready = s.ready; rooted = s.rooted }) in
          let is = granted_to u 0 t ps s.table_seat.number f.ensures.step.0 r (oldest_in f.new.seat.moving) ∙ ap (λ (z : Releaser). releases p0 z (Unlocked.Granted r.seat)) c.in-Waiter.is in
          let k = c.keep in let p1 = made_of 0 t ps (WaitWakeStore (Unlocked.Granted r.seat)) in
          let so0 = course_next g.T.Kept.follows g.T.Kept.fits s.table_seat.number p0 s.table_seat.moving s.table_seat.place.me.0 s.table_seat.place.table_id.words s.table_seat.place.id s.table_seat.limits p0 f.ensures.step.0 s.table_seat.place.me s.table_seat.moving f.new.seat.place.me f.new.seat.moving f.new.seat.place.table_id.words f.new.seat.place.id (opens p1)
          (course_none g.T.Kept.follows g.T.Kept.fits s.table_seat.number p0 s.table_seat.moving s.table_seat.place.me.0) fit (told_before f.ensures.same f.ensures.step.1) is (λ e. cc) refl in
          let fit1 = fit_after g.T.Kept.follows g.T.Kept.fits s.table_seat.number f.new.seat.place.table_id.words f.new.seat.place.id s.table_seat.limits p0 f.ensures.step.0 s.table_seat.place.me s.table_seat.moving f.new.seat.place.me f.new.seat.moving (told_before f.ensures.same f.ensures.step.1) (opens p1) is in
          let so1 = course_next g.T.Kept.follows g.T.Kept.fits s.table_seat.number p0 s.table_seat.moving s.table_seat.place.me.0 f.new.seat.place.table_id.words f.new.seat.place.id s.table_seat.limits p1 k.result f.new.seat.place.me f.new.seat.moving k.new.seat.place.me k.new.seat.moving k.new.seat.place.table_id.words k.new.seat.place.id
          (record { seat = made_of 0 t ps (Asleep Sleeper.Waiter); turn = Ended (Answer.Waiting (Unlocked.Granted r.seat)) }) so0 fit1 (told_before (same_then f.ensures.same k.ensures.same) k.ensures.step) (waited 0 t ps s.table_seat.number k.result (Unlocked.Granted r.seat) (oldest_in k.new.seat.moving)) (λ e. cc) refl in
          subst (λ (x : SeatState). Course g.T.Kept.follows g.T.Kept.fits s.table_seat.number x s.table_seat.moving s.table_seat.place.me.0 (release_turn u (Unlocked.Granted r.seat)) (record x { point = Asleep Sleeper.Waiter }) k.new.seat.moving k.new.seat.place.me.0) (sym at)
          (subst (λ (z : Releaser). Course g.T.Kept.follows g.T.Kept.fits s.table_seat.number p0 s.table_seat.moving s.table_seat.place.me.0 (release_turn z (Unlocked.Granted r.seat)) (made_of 0 t ps (Asleep Sleeper.Waiter)) k.new.seat.moving k.new.seat.place.me.0) (sym c.in-Waiter.is) so1);
      wakes = let one = wakes_one g.T.Kept.follows g.T.Kept.fits _ _ _ _ _ _ _ (told_before f.ensures.same f.ensures.step.1).event s.table_seat.limits.seats s.table_seat.number f.result f.ensures.wakes (subst (λ (x : SeatState). IsReady s.table_seat.limits.seats s.table_seat.number x) at s.ready) in
          record { granted = grants_none g.T.Kept.follows g.T.Kept.fits _ _ _ _ _ _ _ c.keep.ensures.step.event refl ∙ one.granted; above = one.above; inside = one.inside };
    }
