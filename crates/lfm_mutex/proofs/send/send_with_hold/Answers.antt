use Rattle.std.proofs.Common.{rules, refl}
use Rattle.lfm_protocol.specs.declared.points.Point.TheVariants.{PushLoad, SendWakeStore}
use Rattle.lfm_protocol.specs.declared.points.Pusher.{Pusher}
use Rattle.lfm_table.specs.Steps.{oldest_in}
use Rattle.lfm_table.proofs.tables.FastPathSteps.{told_before}
use Rattle.lfm_mutex.proofs.runs.GoesOn.{rest_finishes, rest_spends}
use Rattle.lfm_mutex.proofs.runs.SendCounts.{counts}
use Rattle.lfm_mutex.proofs.runs.SendPoints.{counted_none, counted_some}
use Rattle.lfm_mutex.proofs.send.send_with_hold.Goals as goal

pub returns-then-found-eq0 : goal.returns-then-found-eq0
returns-then-found-eq0 g c =
    let s = c.args.seat.now in let x = s.state in let u = c.args.target in let f = c.keep_held-found in
    let so = counts x x.depth (SendWakeStore u) c.requires.stands refl (record { seated = s.seated; became = s.became; ready = s.ready; rooted = s.rooted }) (told_before f.ensures.same f.ensures.step) (counted_none x.depth x.takes x.posts s.table_seat.number f.result u (oldest_in f.new.seat.moving) c.if-found-eq0.true) in
    record {
      finishes = rest_finishes so.plain refl c.finish_send.ensures.finishes (search rules);
      ends = c.finish_send.ensures.ends;
      spends = rest_spends so.plain refl f.ensures.same c.finish_send.ensures.spends;
    }

pub returns : goal.returns
returns g c =
    let s = c.args.seat.now in let x = s.state in let u = c.args.target in let f = c.keep_held-found in
    let so = counts x x.depth (PushLoad (Pusher.Sender u)) c.requires.stands refl (record { seated = s.seated; became = s.became; ready = s.ready; rooted = s.rooted }) (told_before f.ensures.same f.ensures.step) (counted_some x.depth x.takes x.posts s.table_seat.number f.result u (oldest_in f.new.seat.moving) c.if-found-eq0.false) in
    record {
      finishes = rest_finishes so.plain refl c.queue_target.ensures.finishes (search rules);
      ends = c.queue_target.ensures.ends;
      spends = rest_spends so.plain refl f.ensures.same c.queue_target.ensures.spends;
    }
