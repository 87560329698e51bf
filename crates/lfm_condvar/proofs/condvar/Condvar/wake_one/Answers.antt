use Rattle.std.proofs.Common.{subst, sym, refl}
use Rattle.lfm_mutex.specs.Belongs.{limits_of}
use Rattle.lfm_mutex.specs.calls.Sight.{sight}
use Rattle.lfm_mutex.specs.calls.WakeUps.{as_list}
use Rattle.lfm_condvar.specs.Belongs.{cond_limits, cond_sight, cond_tries}
use Rattle.lfm_condvar.specs.Wakes.{SendsBy, WakeOneEnds}
use Rattle.lfm_mutex.proofs.runs.Woken.{woken_from, woken_none}
use Rattle.lfm_mutex.proofs.runs.RunGoesOn.{run_next, run_same}
use Rattle.lfm_condvar.proofs.condvar.Condvar.wake_one.Goals as goal

pub returns-clause-run : goal.returns-clause-run
returns-clause-run g c = run_next c.send_oldest_in_one_hold-sent.ensures.run c.wake_from.ensures.run

pub returns-then-asleep-clause-run : goal.returns-then-asleep-clause-run
returns-then-asleep-clause-run g c = run_same

pub returns-clause-wakes : goal.returns-clause-wakes
returns-clause-wakes g c = let o = c.send_oldest_in_one_hold-sent in let a = c.args in subst (λ z. WakeOneEnds (limits_of a.mutex.now).seats (cond_limits a.self.now) (cond_tries a.self.now) (cond_sight a.cond.now) (cond_sight o.new.cond) (sight a.seat.now) z o.result.0) (sym c.wake_from.ensures.same) o.ensures.sends

pub returns-clause-steps : goal.returns-clause-steps
returns-clause-steps g c = let o = c.send_oldest_in_one_hold-sent in let a = c.args in subst (λ z. SendsBy (limits_of a.mutex.now) (sight a.seat.now) z o.result.0) (sym c.wake_from.ensures.same) o.ensures.steps

pub returns-clause-woken : goal.returns-clause-woken
returns-clause-woken g c = let o = c.send_oldest_in_one_hold-sent in
    woken_from c.args.seat.now o.new.seat c.wake_from.new.seat (as_list o.result.1) o.ensures.woken o.ensures.wakes.granted c.wake_from.ensures.woken c.wake_from.ensures.same

pub returns-then-asleep-clause-woken : goal.returns-then-asleep-clause-woken
returns-then-asleep-clause-woken g c = let s = c.args.seat.now in woken_none s s refl refl
