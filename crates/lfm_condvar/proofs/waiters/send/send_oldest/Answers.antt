use Rattle.std.proofs.Common.{subst, sym}
use Rattle.lfm_mutex.specs.Belongs.{limits_of}
use Rattle.lfm_mutex.specs.calls.Sight.{sight}
use Rattle.lfm_mutex.specs.calls.WakeUps.{as_list}
use Rattle.lfm_condvar.specs.Wakes.{SendsBy, SendsOldest}
use Rattle.lfm_mutex.proofs.runs.Woken.{woken_from}
use Rattle.lfm_mutex.proofs.runs.RunGoesOn.{run_next}
use Rattle.lfm_condvar.proofs.waiters.send.send_oldest.Goals as goal

pub returns-clause-run : goal.returns-clause-run
returns-clause-run g c = run_next c.send_oldest_without_waking-sent.ensures.run c.wake_from.ensures.run

pub returns-clause-sends : goal.returns-clause-sends
returns-clause-sends g c = let o = c.send_oldest_without_waking-sent in let a = c.args in subst (λ z. SendsOldest (limits_of a.mutex.now).seats (sight a.seat.now) z a.waiters.now o.new.waiters o.result.0) (sym c.wake_from.ensures.same) o.ensures.sends

pub returns-clause-steps : goal.returns-clause-steps
returns-clause-steps g c = let o = c.send_oldest_without_waking-sent in let a = c.args in subst (λ z. SendsBy (limits_of a.mutex.now) (sight a.seat.now) z o.result.0) (sym c.wake_from.ensures.same) o.ensures.steps

pub returns-clause-woken : goal.returns-clause-woken
returns-clause-woken g c = let o = c.send_oldest_without_waking-sent in
    woken_from c.args.seat.now o.new.seat c.wake_from.new.seat (as_list o.result.1) o.ensures.woken o.ensures.wakes.granted c.wake_from.ensures.woken c.wake_from.ensures.same
