use Rattle.std.proofs.Common.{rules, ◌+◌, length, sym, ap, subst, ◌∙◌, arith}
use Rattle.lfm_table.specs.declared.seat_view.View.{View}
use Rattle.lfm_mutex.specs.calls.Runs.{errand}
use Rattle.lfm_mutex.specs.calls.Due.{due}
use Rattle.lfm_mutex.specs.calls.FailedPushes.{Spends}
use Rattle.lfm_mutex.proofs.runs.DueFalls.{due-most}
use Rattle.lfm_mutex.proofs.runs.Spending.{spends_within, spent, spent_nothing}
use Rattle.lfm_mutex.proofs.runs.CallStarts.{begun_open}
use Rattle.lfm_protocol.specs.declared.limits.Limits.{Limits}
use Rattle.lfm_mutex.specs.calls.WakeUps.{Wakes, grants_of, may_grant}
use Rattle.lfm_mutex.proofs.runs.WakeUps.{wakes_none}
use Rattle.lfm_table.proofs.tables.Actions.{run_next}
use Rattle.lfm_mutex.proofs.runs.RunGoesOn.{run_stays_at}
use Rattle.lfm_mutex.proofs.runs.SeatCalls.{at_once, answers, by_steps}
use Rattle.lfm_mutex.proofs.calls.begin_and_finish.Goals as goal

pub returns-in-Open-clause-answers : goal.returns-in-Open-clause-answers
returns-in-Open-clause-answers g c = let s = c.args.seat.now in let b = c.begin_call.new.seat in let r = c.finish in
    answers g.T.Kept.follows g.T.Kept.fits s b c.args.mutex.now.limits c.args.call c.requires.belongs.1 c.begin_call.ensures.same c.in-Open.ensures.seat r.new.seat r.result.0 c.in-Open.ensures.turn c.finish.ensures.finishes.kept c.finish.ensures.ends

pub returns-in-Open-clause-turned : goal.returns-in-Open-clause-turned
returns-in-Open-clause-turned g c = let s = c.args.seat.now in let b = c.begin_call.new.seat in let r = c.finish in
    (by_steps g.T.Kept.follows g.T.Kept.fits s b c.args.mutex.now.limits c.args.call c.requires.belongs.1 c.begin_call.ensures.same c.in-Open.ensures.seat r.new.seat r.result.0 c.in-Open.ensures.turn c.finish.ensures.finishes.kept c.finish.ensures.ends c.requires.keeps c.finish.ensures.finishes.made).turned

pub returns-in_default-clause-turned : goal.returns-in_default-clause-turned
returns-in_default-clause-turned g c = let s = c.args.seat.now in let b = c.begin_call.new.seat in
    (at_once g.T.Kept.follows g.T.Kept.fits s b c.args.mutex.now.limits c.args.call c.requires.belongs.1 c.begin_call.ensures.same c.begin_call.ensures.seat c.begin_call.result (λ z. c.in_default.not-Open z) c.begin_call.ensures.turn).turned

pub returns-in-Open-clause-made : goal.returns-in-Open-clause-made
returns-in-Open-clause-made g c = let s = c.args.seat.now in let b = c.begin_call.new.seat in let r = c.finish in
    (by_steps g.T.Kept.follows g.T.Kept.fits s b c.args.mutex.now.limits c.args.call c.requires.belongs.1 c.begin_call.ensures.same c.in-Open.ensures.seat r.new.seat r.result.0 c.in-Open.ensures.turn c.finish.ensures.finishes.kept c.finish.ensures.ends c.requires.keeps c.finish.ensures.finishes.made).made

pub returns-in_default-clause-made : goal.returns-in_default-clause-made
returns-in_default-clause-made g c = let s = c.args.seat.now in let b = c.begin_call.new.seat in
    (at_once g.T.Kept.follows g.T.Kept.fits s b c.args.mutex.now.limits c.args.call c.requires.belongs.1 c.begin_call.ensures.same c.begin_call.ensures.seat c.begin_call.result (λ z. c.in_default.not-Open z) c.begin_call.ensures.turn).made

pub returns-in-Open-clause-bounded : goal.returns-in-Open-clause-bounded
returns-in-Open-clause-bounded g c = let s = c.args.seat.now in let b = c.begin_call.new.seat in let f = c.finish.new.seat in
    let n = b.table_seat.limits.seats in let k = length b.table_seat.place.me.0.popped in
    let all = spends_within (due n k b.state.point) (n + 9) 0 0 b.table_seat.place.me.0.trail f.table_seat.place.me.0.trail (due-most n k b.state.point) (omega arith) c.finish.ensures.spends in
    let here = subst (λ (t : View g.row.T.Denot × Limits). Spends (t.1.seats + 9) 0 t.0.trail f.table_seat.place.me.0.trail) (λ i. (ap (λ p. p.me.0) c.begin_call.ensures.same.0 i, (c.begin_call.ensures.same.2 ∙ c.requires.belongs.1) i)) all in
    spent (c.args.mutex.now.limits.seats + 9) (c.args.mutex.now.limits.seats + 9) s.table_seat.place.me.0.trail f.table_seat.place.me.0.trail (omega arith) here

pub returns-in_default-clause-bounded : goal.returns-in_default-clause-bounded
returns-in_default-clause-bounded g c = let s = c.args.seat.now in let b = c.begin_call.new.seat in
    spent_nothing (c.args.mutex.now.limits.seats + 9) s.table_seat.place.me.0.trail b.table_seat.place.me.0.trail (ap (λ p. p.me.0.trail) c.begin_call.ensures.same.0)

pub returns-in-Open-clause-none : goal.returns-in-Open-clause-none
returns-in-Open-clause-none g c = λ idle. let s = c.args.seat.now in
    c.finish.ensures.none (ap may_grant (ap (λ x. errand x.point) c.in-Open.ensures.seat ∙ begun_open s.state s.table_seat.limits c.args.call (sym c.in-Open.ensures.turn)) ∙ idle)

pub returns-in-Open-clause-acts : goal.returns-in-Open-clause-acts
returns-in-Open-clause-acts g c = record {
  belongs = search rules;
  woken = search rules;
  run = run_next (run_stays_at (ap (λ p. p.me.0) c.begin_call.ensures.same.0)) c.finish.ensures.finishes.made.ran.run;
  wakes = let f = c.finish.new.seat in
      subst (λ (t : View g.row.T.Denot × Limits). Wakes t.1.seats c.finish.result.1 t.0.trail f.table_seat.place.me.0.trail) (λ i. (ap (λ p. p.me.0) c.begin_call.ensures.same.0 i, (c.begin_call.ensures.same.2 ∙ c.requires.belongs.1) i)) c.finish.ensures.finishes.wakes;
}

pub returns-in_default-clause-acts : goal.returns-in_default-clause-acts
returns-in_default-clause-acts g c = record {
  belongs = search rules;
  woken = search rules;
  run = run_stays_at (ap (λ p. p.me.0) c.begin_call.ensures.same.0);
  wakes = let s = c.args.seat.now in let b = c.begin_call.new.seat in
      wakes_none c.args.mutex.now.limits.seats s.table_seat.place.me.0.trail b.table_seat.place.me.0.trail (ap (λ p. grants_of p.me.0.trail) c.begin_call.ensures.same.0);
}
