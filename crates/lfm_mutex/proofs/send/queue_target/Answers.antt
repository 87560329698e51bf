use Rattle.std.proofs.Common.{rules, ◌≡◌, ℕ, sym, subst, arith, length}
use Rattle.lfm_protocol.specs.declared.points.Point.{Point}
use Rattle.lfm_protocol.specs.declared.points.Point.TheVariants.{Rest, PushLoad}
use Rattle.lfm_protocol.specs.declared.points.Pusher.{Pusher}
use Rattle.lfm_protocol.specs.declared.answers.Answer.{Answer}
use Rattle.lfm_protocol.specs.declared.answers.Turn.TheVariants.{Open, Ended}
use Rattle.lfm_protocol.specs.declared.seats.SeatState.{SeatState}
use Rattle.lfm_table.specs.FastPath.{IsBetweenSteps}
use Rattle.lfm_table.proofs.tables.StepFacts.{made_of}
use Rattle.lfm_mutex.specs.calls.Due.{due}
use Rattle.lfm_mutex.specs.calls.FailedPushes.{Spends}
use Rattle.lfm_mutex.specs.calls.FastPath.{Course}
use Rattle.lfm_mutex.specs.calls.Pushes.{PlainCourse}
use Rattle.lfm_mutex.specs.calls.Stops.{push_stop_point}
use Rattle.lfm_mutex.proofs.runs.GoesOn.{rest_finishes, rest_spends}
use Rattle.lfm_mutex.proofs.runs.Spending.{spends_within}
use Rattle.lfm_mutex.proofs.runs.WakeUps.{wakes_none}
use Rattle.lfm_mutex.proofs.send.queue_target.Goals as goal

pub push-requires-clause-fit : goal.push-requires-clause-fit
push-requires-clause-fit g c κs within = let s = c.args.seat.now in let x = s.state in
    subst (λ (z : Point). IsBetweenSteps s.table_seat (made_of x.depth x.takes x.posts z)) c.requires.stands (record { seated = s.seated; became = s.became; ready = s.ready; rooted = s.rooted })

-- the seat is already at that point
stands : {u : ℕ} (x : SeatState) → x.point ≡ PushLoad (Pusher.Sender u) → x ≡ record x { point = PushLoad (Pusher.Sender u) }
stands {u} x at = λ i. record { depth = x.depth; takes = x.takes; posts = x.posts; point = at i }

pub returns-in-Queued-clause-finishes : goal.returns-in-Queued-clause-finishes
returns-in-Queued-clause-finishes g c = record {
  kept = search rules;
  made = let s = c.args.seat.now in let p = c.push in
      subst (λ (z : SeatState). Course g.T.Kept.follows g.T.Kept.fits s.table_seat.number z s.table_seat.moving s.table_seat.place.me.0 (Ended Answer.Sent) (record s.state { point = Rest }) p.new.seat.moving p.new.seat.place.me.0) (sym (stands c.args.seat.now.state c.requires.stands)) c.in-Queued.ensures.made.course;
  wakes = let s = c.args.seat.now in wakes_none s.table_seat.limits.seats s.table_seat.place.me.0.trail c.push.new.seat.place.me.0.trail c.push.ensures.made.grants;
}

pub returns-in-Queued-clause-spends : goal.returns-in-Queued-clause-spends
returns-in-Queued-clause-spends g c =
    let s = c.args.seat.now in let p = c.push in let n = s.table_seat.limits.seats in
    let all = due n (length s.table_seat.place.me.0.popped) (PushLoad (Pusher.Sender c.args.target)) in
    subst (λ (z : SeatState). Spends (due n (length s.table_seat.place.me.0.popped) z.point) 0 s.table_seat.place.me.0.trail p.new.seat.place.me.0.trail) (sym (stands c.args.seat.now.state c.requires.stands))
    (spends_within all all (due n (length p.new.seat.place.me.0.popped) Rest) 0 s.table_seat.place.me.0.trail p.new.seat.place.me.0.trail (omega arith) (omega arith) c.in-Queued.ensures.made.spends)

pub returns-in-Stopped : goal.returns-in-Stopped
returns-in-Stopped g c =
    let s = c.args.seat.now in let p = c.push in let on = c.finish_send in
    let so = subst (λ (z : SeatState). PlainCourse g.T.Kept.follows g.T.Kept.fits s.table_seat.number s.table_seat.limits.seats z s.table_seat.moving s.table_seat.place.me.0 Open (record s.state { point = push_stop_point (Pusher.Sender c.args.target) c.in-Stopped.stop }) p.new.seat.moving p.new.seat.place.me.0) (sym (stands s.state c.requires.stands)) c.in-Stopped.ensures.made in
    record {
      finishes = rest_finishes so c.stop_at_push.ensures on.ensures.finishes (search rules);
      ends = on.ensures.ends;
      spends = rest_spends so c.stop_at_push.ensures p.ensures.same on.ensures.spends;
    }
