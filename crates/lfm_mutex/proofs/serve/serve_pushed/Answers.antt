use Rattle.std.proofs.Common.{rules, ◌≡◌, refl, sym, ap, subst, ◌∙◌}
use Rattle.lfm_words.specs.declared.links.Link.{Link}
use Rattle.lfm_words.specs.declared.pop_lists.Record.{Record}
use Rattle.lfm_protocol.specs.declared.points.Carrier.{Carrier}
use Rattle.lfm_protocol.specs.declared.points.Point.TheVariants.{GrantWakeStore, ReleaseHandoffStore, TakeClearHead, TakeLinkLoad}
use Rattle.lfm_protocol.specs.declared.seats.SeatState.{SeatState}
use Rattle.lfm_table.specs.Steps.{oldest_in}
use Rattle.lfm_table.specs.FastPath.{Fit}
use Rattle.lfm_mutex.specs.calls.Runs.{opens}
use Rattle.lfm_mutex.specs.calls.FastPath.{Course, release_turn}
use Rattle.lfm_mutex.proofs.runs.Courses.{course_none, course_next, course_join}
use Rattle.lfm_mutex.proofs.runs.ServePoints.{cleared_none, cleared_some, last_link, more_links}
use Rattle.lfm_mutex.proofs.runs.FastPathPoints.{fit_after}
use Rattle.lfm_table.proofs.tables.StepFacts.{made_of}
use Rattle.lfm_mutex.proofs.runs.WakeUps.{grants_none, wakes_after}
use Rattle.lfm_table.proofs.tables.FastPathSteps.{told_before, same_then}
use Rattle.lfm_mutex.proofs.runs.SameSeats.{course_same, wakes_same}
use Rattle.lfm_mutex.proofs.serve.serve_pushed.Goals as goal

pub returns-then-next-eq0-clause-finishes : goal.returns-then-next-eq0-clause-finishes
returns-then-next-eq0-clause-finishes g c = record {
  kept = search rules;
  made = let s = c.args.seat.now in let t = s.state.takes in let ps = s.state.posts in let a = s.table_seat.moving in
      let h = c.keep_held-push in let u = c.unpack_link-next in
      let p0 = made_of 0 t ps (TakeClearHead (Carrier.Releaser c.args.releaser)) in
      let at : s.state ≡ p0 = (λ i. record { depth = c.requires.flat i; takes = t; posts = ps; point = c.requires.stands i }) in
      let fit0 = subst (λ (x : SeatState). Fit s.table_seat.number s.table_seat.place.table_id.words s.table_seat.place.id s.table_seat.limits x s.table_seat.place.me a) at (record { seated = s.seated; became = s.became; ready = s.ready; rooted = s.rooted }) in
      let so0 = course_next g.T.Kept.follows g.T.Kept.fits s.table_seat.number p0 a s.table_seat.place.me.0 s.table_seat.place.table_id.words s.table_seat.place.id s.table_seat.limits p0 h.result s.table_seat.place.me a h.new.seat.place.me h.new.seat.moving h.new.seat.place.table_id.words h.new.seat.place.id (opens (made_of 0 t ps (ReleaseHandoffStore c.args.releaser))) (course_none g.T.Kept.follows g.T.Kept.fits s.table_seat.number p0 a s.table_seat.place.me.0) fit0 (told_before h.ensures.same h.ensures.step) (cleared_none c.args.releaser 0 t ps s.table_seat.number h.result (oldest_in h.new.seat.moving) (ap (λ (z : Link). z.next) (sym u.ensures.holds) ∙ c.if-next-eq0.true)) (λ e. cc) refl in
      let on = c.finish_release in let r = on.new.seat in
      subst (λ (x : SeatState). Course g.T.Kept.follows g.T.Kept.fits s.table_seat.number x a s.table_seat.place.me.0 (release_turn c.args.releaser on.result.0) r.state r.table_seat.moving r.table_seat.place.me.0) (sym at) (course_join g.T.Kept.follows g.T.Kept.fits s.table_seat.number p0 a s.table_seat.place.me.0 (made_of 0 t ps (ReleaseHandoffStore c.args.releaser)) r.state h.new.seat.moving r.table_seat.moving h.new.seat.place.me.0 r.table_seat.place.me.0 (release_turn c.args.releaser on.result.0) so0
      (subst (λ (x : SeatState). Course g.T.Kept.follows g.T.Kept.fits s.table_seat.number x h.new.seat.moving h.new.seat.place.me.0 (release_turn c.args.releaser on.result.0) r.state r.table_seat.moving r.table_seat.place.me.0) (λ i. record { depth = c.requires.flat i; takes = t; posts = ps; point = ReleaseHandoffStore c.args.releaser }) (course_same h.ensures.same.0 on.ensures.finishes.made)));
  wakes = let s = c.args.seat.now in let h = c.keep_held-push in let on = c.finish_release in
      wakes_after s.table_seat.limits.seats on.result.1 s.table_seat.place.me.0.trail h.new.seat.place.me.0.trail on.new.seat.table_seat.place.me.0.trail (grants_none g.T.Kept.follows g.T.Kept.fits _ _ _ _ _ _ _ h.ensures.step.event refl) (wakes_same on.result.1 h.new.seat.place.me.0.trail on.new.seat.table_seat.place.me.0.trail h.ensures.same.1 on.ensures.finishes.wakes);
}

pub returns-then-link-ne0-clause-finishes : goal.returns-then-link-ne0-clause-finishes
returns-then-link-ne0-clause-finishes g c = record {
  kept = search rules;
  made = let s = c.args.seat.now in let t = s.state.takes in let ps = s.state.posts in let a = s.table_seat.moving in
      let h = c.keep_held-push in let u = c.unpack_link-next in
      let p0 = made_of 0 t ps (TakeClearHead (Carrier.Releaser c.args.releaser)) in
      let at : s.state ≡ p0 = (λ i. record { depth = c.requires.flat i; takes = t; posts = ps; point = c.requires.stands i }) in
      let fit0 = subst (λ (x : SeatState). Fit s.table_seat.number s.table_seat.place.table_id.words s.table_seat.place.id s.table_seat.limits x s.table_seat.place.me a) at (record { seated = s.seated; became = s.became; ready = s.ready; rooted = s.rooted }) in
      let w = c.collect-word in let v = c.unpack_link-link in
      let p1 = made_of 0 t ps (TakeLinkLoad (Carrier.Releaser c.args.releaser) u.result.next) in
      let to1 = cleared_some c.args.releaser 0 t ps s.table_seat.number h.result (oldest_in h.new.seat.moving) (λ e. c.if-next-eq0.false (ap (λ (z : Link). z.next) u.ensures.holds ∙ e)) ∙ ap (λ (z : Link). opens (made_of 0 t ps (TakeLinkLoad (Carrier.Releaser c.args.releaser) z.next))) (sym u.ensures.holds) in
      let so0 = course_next g.T.Kept.follows g.T.Kept.fits s.table_seat.number p0 a s.table_seat.place.me.0 s.table_seat.place.table_id.words s.table_seat.place.id s.table_seat.limits p0 h.result s.table_seat.place.me a h.new.seat.place.me h.new.seat.moving h.new.seat.place.table_id.words h.new.seat.place.id (opens p1) (course_none g.T.Kept.follows g.T.Kept.fits s.table_seat.number p0 a s.table_seat.place.me.0) fit0 (told_before h.ensures.same h.ensures.step) to1 (λ e. cc) refl in
      let fit1 = fit_after g.T.Kept.follows g.T.Kept.fits s.table_seat.number h.new.seat.place.table_id.words h.new.seat.place.id s.table_seat.limits p0 h.result s.table_seat.place.me a h.new.seat.place.me h.new.seat.moving (told_before h.ensures.same h.ensures.step) (opens p1) to1 in
      let so1 = course_next g.T.Kept.follows g.T.Kept.fits s.table_seat.number p0 a s.table_seat.place.me.0 h.new.seat.place.table_id.words h.new.seat.place.id s.table_seat.limits p1 w.result h.new.seat.place.me h.new.seat.moving w.new.seat.place.me w.new.seat.moving w.new.seat.place.table_id.words w.new.seat.place.id (opens (made_of 0 t ps (TakeLinkLoad (Carrier.Releaser c.args.releaser) v.result.next))) so0 fit1 (told_before (same_then h.ensures.same w.ensures.same) w.ensures.step) (more_links c.args.releaser 0 t ps s.table_seat.number w.result u.result.next (oldest_in w.new.seat.moving) (λ e. c.if-link-ne0.true (ap (λ (z : Link). z.next) v.ensures.holds ∙ e)) ∙ ap (λ (z : Link). opens (made_of 0 t ps (TakeLinkLoad (Carrier.Releaser c.args.releaser) z.next))) (sym v.ensures.holds)) (λ e. cc) refl in
      let on = c.finish_release-then-link-ne0 in let r = on.new.seat in
      subst (λ (x : SeatState). Course g.T.Kept.follows g.T.Kept.fits s.table_seat.number x a s.table_seat.place.me.0 (release_turn c.args.releaser on.result.0) r.state r.table_seat.moving r.table_seat.place.me.0) (sym at) (course_join g.T.Kept.follows g.T.Kept.fits s.table_seat.number p0 a s.table_seat.place.me.0 (made_of 0 t ps (TakeLinkLoad (Carrier.Releaser c.args.releaser) v.result.next)) r.state w.new.seat.moving r.table_seat.moving w.new.seat.place.me.0 r.table_seat.place.me.0 (release_turn c.args.releaser on.result.0) so1
      (subst (λ (x : SeatState). Course g.T.Kept.follows g.T.Kept.fits s.table_seat.number x w.new.seat.moving w.new.seat.place.me.0 (release_turn c.args.releaser on.result.0) r.state r.table_seat.moving r.table_seat.place.me.0) (λ i. record { depth = c.requires.flat i; takes = t; posts = ps; point = TakeLinkLoad (Carrier.Releaser c.args.releaser) v.result.next }) (course_same (same_then h.ensures.same w.ensures.same).0 on.ensures.finishes.made)));
  wakes = let s = c.args.seat.now in let h = c.keep_held-push in let w = c.collect-word in let on = c.finish_release-then-link-ne0 in
      wakes_after s.table_seat.limits.seats on.result.1 s.table_seat.place.me.0.trail w.new.seat.place.me.0.trail on.new.seat.table_seat.place.me.0.trail (grants_none g.T.Kept.follows g.T.Kept.fits _ _ _ _ _ _ _ w.ensures.step.event refl ∙ grants_none g.T.Kept.follows g.T.Kept.fits _ _ _ _ _ _ _ h.ensures.step.event refl) (wakes_same on.result.1 w.new.seat.place.me.0.trail on.new.seat.table_seat.place.me.0.trail (same_then h.ensures.same w.ensures.same).1 on.ensures.finishes.wakes);
}

pub returns-clause-finishes : goal.returns-clause-finishes
returns-clause-finishes g c = record {
  kept = search rules;
  made = let s = c.args.seat.now in let t = s.state.takes in let ps = s.state.posts in let a = s.table_seat.moving in
      let h = c.keep_held-push in let u = c.unpack_link-next in
      let p0 = made_of 0 t ps (TakeClearHead (Carrier.Releaser c.args.releaser)) in
      let at : s.state ≡ p0 = (λ i. record { depth = c.requires.flat i; takes = t; posts = ps; point = c.requires.stands i }) in
      let fit0 = subst (λ (x : SeatState). Fit s.table_seat.number s.table_seat.place.table_id.words s.table_seat.place.id s.table_seat.limits x s.table_seat.place.me a) at (record { seated = s.seated; became = s.became; ready = s.ready; rooted = s.rooted }) in
      let w = c.collect-word in let v = c.unpack_link-link in
      let p1 = made_of 0 t ps (TakeLinkLoad (Carrier.Releaser c.args.releaser) u.result.next) in
      let to1 = cleared_some c.args.releaser 0 t ps s.table_seat.number h.result (oldest_in h.new.seat.moving) (λ e. c.if-next-eq0.false (ap (λ (z : Link). z.next) u.ensures.holds ∙ e)) ∙ ap (λ (z : Link). opens (made_of 0 t ps (TakeLinkLoad (Carrier.Releaser c.args.releaser) z.next))) (sym u.ensures.holds) in
      let rec : Record = record { seat = u.result.next; stamp = v.result.stamp } in
      let so0 = course_next g.T.Kept.follows g.T.Kept.fits s.table_seat.number p0 a s.table_seat.place.me.0 s.table_seat.place.table_id.words s.table_seat.place.id s.table_seat.limits p0 h.result s.table_seat.place.me a h.new.seat.place.me h.new.seat.moving h.new.seat.place.table_id.words h.new.seat.place.id (opens p1) (course_none g.T.Kept.follows g.T.Kept.fits s.table_seat.number p0 a s.table_seat.place.me.0) fit0 (told_before h.ensures.same h.ensures.step) to1 (λ e. cc) refl in
      let fit1 = fit_after g.T.Kept.follows g.T.Kept.fits s.table_seat.number h.new.seat.place.table_id.words h.new.seat.place.id s.table_seat.limits p0 h.result s.table_seat.place.me a h.new.seat.place.me h.new.seat.moving (told_before h.ensures.same h.ensures.step) (opens p1) to1 in
      let so1 = course_next g.T.Kept.follows g.T.Kept.fits s.table_seat.number p0 a s.table_seat.place.me.0 h.new.seat.place.table_id.words h.new.seat.place.id s.table_seat.limits p1 w.result h.new.seat.place.me h.new.seat.moving w.new.seat.place.me w.new.seat.moving w.new.seat.place.table_id.words w.new.seat.place.id (opens (made_of 0 t ps (GrantWakeStore (Carrier.Releaser c.args.releaser) rec))) so0 fit1 (told_before (same_then h.ensures.same w.ensures.same) w.ensures.step) (last_link c.args.releaser 0 t ps s.table_seat.number w.result u.result.next (oldest_in w.new.seat.moving) (ap (λ (z : Link). z.next) (sym v.ensures.holds) ∙ c.if-link-ne0.false) ∙ ap (λ (z : Link). opens (made_of 0 t ps (GrantWakeStore (Carrier.Releaser c.args.releaser) (record { seat = u.result.next; stamp = z.stamp })))) (sym v.ensures.holds)) (λ e. cc) refl in
      let on = c.grant in let r = on.new.seat in
      subst (λ (x : SeatState). Course g.T.Kept.follows g.T.Kept.fits s.table_seat.number x a s.table_seat.place.me.0 (release_turn c.args.releaser on.result.0) r.state r.table_seat.moving r.table_seat.place.me.0) (sym at) (course_join g.T.Kept.follows g.T.Kept.fits s.table_seat.number p0 a s.table_seat.place.me.0 (made_of 0 t ps (GrantWakeStore (Carrier.Releaser c.args.releaser) rec)) r.state w.new.seat.moving r.table_seat.moving w.new.seat.place.me.0 r.table_seat.place.me.0 (release_turn c.args.releaser on.result.0) so1
      (subst (λ (x : SeatState). Course g.T.Kept.follows g.T.Kept.fits s.table_seat.number x w.new.seat.moving w.new.seat.place.me.0 (release_turn c.args.releaser on.result.0) r.state r.table_seat.moving r.table_seat.place.me.0) (λ i. record { depth = c.requires.flat i; takes = t; posts = ps; point = GrantWakeStore (Carrier.Releaser c.args.releaser) (record { seat = c.known-next.ensures i; stamp = v.result.stamp }) }) (course_same (same_then h.ensures.same w.ensures.same).0 on.ensures.finishes.made)));
  wakes = let s = c.args.seat.now in let h = c.keep_held-push in let w = c.collect-word in let on = c.grant in
      wakes_after s.table_seat.limits.seats on.result.1 s.table_seat.place.me.0.trail w.new.seat.place.me.0.trail on.new.seat.table_seat.place.me.0.trail (grants_none g.T.Kept.follows g.T.Kept.fits _ _ _ _ _ _ _ w.ensures.step.event refl ∙ grants_none g.T.Kept.follows g.T.Kept.fits _ _ _ _ _ _ _ h.ensures.step.event refl) (wakes_same on.result.1 w.new.seat.place.me.0.trail on.new.seat.table_seat.place.me.0.trail (same_then h.ensures.same w.ensures.same).1 on.ensures.finishes.wakes);
}
