use Rattle.std.proofs.Common.{rules, ◌≡◌, length, refl, subst, sym}
use Rattle.lfm_protocol.specs.declared.answers.Answer.{Answer}
use Rattle.lfm_protocol.specs.declared.answers.Turn.TheVariants.{Ended}
use Rattle.lfm_protocol.specs.declared.points.Point.TheVariants.{PushLoad, Rest, SendWakeStore}
use Rattle.lfm_protocol.specs.declared.points.Pusher.{Pusher}
use Rattle.lfm_protocol.specs.declared.seats.SeatState.{SeatState}
use Rattle.lfm_laws.specs.table.Words.{stepped_by}
use Rattle.lfm_table.specs.Steps.{oldest_in}
use Rattle.lfm_table.proofs.tables.FastPathSteps.{told_before, same_then}
use Rattle.lfm_table.proofs.tables.StepFacts.{made_of}
use Rattle.lfm_mutex.specs.calls.Due.{due}
use Rattle.lfm_mutex.specs.calls.FastPath.{Course}
use Rattle.lfm_mutex.proofs.runs.Courses.{course_next}
use Rattle.lfm_mutex.proofs.runs.GoesOn.{rest_finishes, rest_spends}
use Rattle.lfm_mutex.proofs.runs.SendCounts.{counts}
use Rattle.lfm_mutex.proofs.runs.SendPoints.{counted_none, counted_some, granted_target}
use Rattle.lfm_mutex.proofs.runs.Spending.{spends_any, spends_join}
use Rattle.lfm_mutex.proofs.runs.WakeUps.{wakes_after, wakes_one}
use Rattle.lfm_mutex.proofs.send.send_without_hold.Goals as goal

-- the seat, which doesn't hold, is at the point where it queues its target
stands : {u : _} (x : SeatState) → x.depth ≡ 0 → record x { point = PushLoad (Pusher.Sender u) } ≡ made_of 0 x.takes x.posts (PushLoad (Pusher.Sender u))
stands {u} x flat = λ i. record { depth = flat i; takes = x.takes; posts = x.posts; point = PushLoad (Pusher.Sender u) }

pub returns-then-found-ne0 : goal.returns-then-found-ne0
returns-then-found-ne0 g c =
    let s = c.args.seat.now in let x = s.state in let u = c.args.target in let f = c.gain-found in
    let so = counts x 0 (PushLoad (Pusher.Sender u)) c.requires.stands c.requires.flat (record { seated = s.seated; became = s.became; ready = s.ready; rooted = s.rooted }) (told_before f.ensures.same f.ensures.step) (counted_some 0 x.takes x.posts s.table_seat.number f.result u (oldest_in f.new.seat.moving) c.if-found-ne0.true) in
    record {
      finishes = rest_finishes so.plain (stands x c.requires.flat) c.queue_target.ensures.finishes (search rules);
      ends = c.queue_target.ensures.ends;
      spends = rest_spends so.plain (stands x c.requires.flat) f.ensures.same c.queue_target.ensures.spends;
    }

pub returns-clause-finishes : goal.returns-clause-finishes
returns-clause-finishes g c =
    let s = c.args.seat.now in let x = s.state in let u = c.args.target in let f = c.gain-found in
    let so = counts x 0 (SendWakeStore u) c.requires.stands c.requires.flat (record { seated = s.seated; became = s.became; ready = s.ready; rooted = s.rooted }) (told_before f.ensures.same f.ensures.step) (counted_none 0 x.takes x.posts s.table_seat.number f.result u (oldest_in f.new.seat.moving) c.if-found-ne0.false) in
    let p1 = made_of 0 x.takes x.posts (SendWakeStore u) in let k = c.store_grant-wake_up in let did = told_before (same_then f.ensures.same k.ensures.same) k.ensures.step.1 in
    record {
      kept = search rules;
      made = let last = course_next g.T.Kept.follows g.T.Kept.fits s.table_seat.number x s.table_seat.moving s.table_seat.place.me.0 so.words so.id s.table_seat.limits p1 k.ensures.step.0 f.new.seat.place.me f.new.seat.moving k.new.seat.place.me k.new.seat.moving k.new.seat.place.table_id.words k.new.seat.place.id
          (record { seat = made_of 0 x.takes x.posts Rest; turn = Ended Answer.Sent }) so.plain.course so.fit did (granted_target 0 x.takes x.posts s.table_seat.number k.ensures.step.0 u (oldest_in k.new.seat.moving)) (λ e. cc) refl in
          subst (λ (z : SeatState). Course g.T.Kept.follows g.T.Kept.fits s.table_seat.number x s.table_seat.moving s.table_seat.place.me.0 (Ended Answer.Sent) z k.new.seat.moving k.new.seat.place.me.0)
          (λ i. record { depth = sym c.requires.flat i; takes = x.takes; posts = x.posts; point = Rest }) last;
      wakes = wakes_after s.table_seat.limits.seats k.result s.table_seat.place.me.0.trail f.new.seat.place.me.0.trail k.new.seat.place.me.0.trail so.plain.grants
          (wakes_one g.T.Kept.follows g.T.Kept.fits _ _ _ _ _ _ _ did.event s.table_seat.limits.seats s.table_seat.number k.result k.ensures.wakes so.fit.ready);
    }

pub returns-clause-spends : goal.returns-clause-spends
returns-clause-spends g c =
    let s = c.args.seat.now in let x = s.state in let u = c.args.target in let f = c.gain-found in
    let so = counts x 0 (SendWakeStore u) c.requires.stands c.requires.flat (record { seated = s.seated; became = s.became; ready = s.ready; rooted = s.rooted }) (told_before f.ensures.same f.ensures.step) (counted_none 0 x.takes x.posts s.table_seat.number f.result u (oldest_in f.new.seat.moving) c.if-found-ne0.false) in
    let p1 = made_of 0 x.takes x.posts (SendWakeStore u) in let k = c.store_grant-wake_up in let did = told_before (same_then f.ensures.same k.ensures.same) k.ensures.step.1 in
    let n = s.table_seat.limits.seats in let st = stepped_by p1 s.table_seat.number k.ensures.step.0 (oldest_in k.new.seat.moving) in
    spends_join (due n (length s.table_seat.place.me.0.popped) x.point) 1 0 s.table_seat.place.me.0.trail f.new.seat.place.me.0.trail k.new.seat.place.me.0.trail so.plain.spends
    (spends_any g.T.Kept.follows g.T.Kept.fits p1 st.seat f.new.seat.place.me.0 k.new.seat.place.me.0 f.new.seat.moving k.new.seat.moving st.turn did.event 0)
