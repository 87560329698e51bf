use Rattle.std.proofs.Common.{refl, sym, ap, subst, arith}
use Rattle.lfm_mutex.specs.declared.seat.Seat.{Seat}
use Rattle.lfm_mutex.specs.calls.RunGoesOn.{RunGoesOnFrom}
use Rattle.lfm_mutex.specs.calls.Sight.{sight}
use Rattle.lfm_mutex.specs.calls.Woken.{WokenAsGranted}
use Rattle.lfm_mutex.proofs.runs.RunGoesOn.{run_same}
use Rattle.lfm_mutex.proofs.runs.Woken.{woken_none}
use Rattle.lfm_monitor.specs.Belongs.{cond_seats_of, mutex_limits, pass_sight, passes_of, plain_conditions_of, plain_seats_of, tries_in}
use Rattle.lfm_monitor.specs.CondSeats.{condition_limits}
use Rattle.lfm_monitor.proofs.PlainWaking.{sends_none_of_one}
use Rattle.lfm_monitor.proofs.Sending.{only}
use Rattle.lfm_monitor.proofs.UsedConditions.{conds_woken_none}
use Rattle.lfm_monitor.proofs.UsedPlainConditions.{plain_woken_none}
use Rattle.lfm_monitor.proofs.monitor.Monitor.wake_one.Goals as goal

-- nothing of the pass's seat has changed
pub returns-then-is_plain : goal.returns-then-is_plain
returns-then-is_plain g c = let e = c.notify_one.ensures in let m = c.args.self.now in let p = c.args.pass.now in let q = c.notify_one.new.pass in record {
  belongs = e.belongs;
  number = ap (λ (u : Seat _). (sight u).number) e.same;
  run = subst (λ (u : Seat _). RunGoesOnFrom p.seat u) (sym e.same) run_same;
  woken = subst (λ (u : Seat _). WokenAsGranted p.seat u) (sym e.same) (woken_none p.seat p.seat refl refl);
  cond_woken = conds_woken_none (cond_seats_of p) (cond_seats_of q) e.morphing;
  plain_woken = e.plain_woken;
  wakes = λ none. absurd (let some = c.if-is_plain.ensures in omega arith);
  plain_wakes = λ some. e.wakes;
  sends = only (pass_sight p) (pass_sight q) (pass_sight p).trail (pass_sight p).sends (ap (λ (u : Seat _). sight u) e.same);
  steps = sends_none_of_one (mutex_limits m) (condition_limits (passes_of m)) (tries_in m) (plain_conditions_of m) c.args.condition (plain_seats_of p) (plain_seats_of q) (pass_sight p) (pass_sight q) c.notify_one.result e.wakes;
  same = e.others;
}

pub returns : goal.returns
returns g c = let e = c.send_one.ensures in record {
  belongs = e.belongs;
  number = e.number;
  run = e.run;
  woken = e.woken;
  cond_woken = e.cond_woken;
  plain_woken = plain_woken_none (plain_seats_of c.args.pass.now) (plain_seats_of c.send_one.new.pass) e.plain;
  wakes = λ none. e.wakes;
  plain_wakes = λ some. absurd (let none = c.if-is_plain.ensures in omega arith);
  sends = e.sends;
  steps = e.steps;
  same = e.same;
}
