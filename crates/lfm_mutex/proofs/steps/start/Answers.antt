use Rattle.std.proofs.Common.{rules, ap, subst}
use Rattle.lfm_protocol.specs.declared.limits.Limits.{Limits}
use Rattle.lfm_table.specs.Settled.{Became}
use Rattle.lfm_mutex.specs.calls.SeatSteps.{Begins}
use Rattle.lfm_mutex.specs.calls.Sight.{sight}
use Rattle.lfm_table.specs.declared.seat_view.View.{View}
use Rattle.lfm_mutex.proofs.runs.OneStep.{begins_seen}
use Rattle.lfm_mutex.specs.calls.WakeUps.{grants_of}
use Rattle.lfm_mutex.proofs.runs.Woken.{woken_none}
use Rattle.lfm_mutex.proofs.runs.RunGoesOn.{run_stays_at}
use Rattle.lfm_mutex.proofs.steps.start.Goals as goal

pub returns-clause-begins : goal.returns-clause-begins
returns-clause-begins g c = let s = c.args.seat.now in let b = c.begin_call.new.seat in let same = c.begin_call.ensures.same in
    let became : Became s.table_seat.place.me.0.state s.table_seat.limits b.state = subst (λ (t : View g.row.T.Denot × Limits). Became t.0.state t.1 b.state) (λ i. (ap (λ p. p.me.0) same.0 i, same.2 i)) b.became in
    subst (λ (l : Limits). Begins l c.args.call s.state (sight s) c.begin_call.result b.state (sight b)) c.requires.belongs.1
    (c.begin_call.ensures.turn, c.begin_call.ensures.seat, begins_seen s.table_seat.number b.table_seat.number s.table_seat.limits s.state b.state s.table_seat.place.me.0 b.table_seat.place.me.0 s.table_seat.moving b.table_seat.moving s.became became same.1 (ap (λ p. p.me.0) same.0) same.3)

pub returns-clause-acts : goal.returns-clause-acts
returns-clause-acts g c = let f = c.begin_call in record {
  belongs = search rules;
  run = run_stays_at (ap (λ p. p.me.0) f.ensures.same.0);
  woken = woken_none c.args.seat.now f.new.seat f.ensures.woken (ap (λ p. grants_of p.me.0.trail) f.ensures.same.0);
}
