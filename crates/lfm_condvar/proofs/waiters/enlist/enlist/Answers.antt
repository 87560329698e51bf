use Rattle.std.proofs.Common.{subst, sym}
use Rattle.lfm_mutex.specs.Belongs.{limits_of}
use Rattle.lfm_mutex.specs.calls.Sight.{sight}
use Rattle.lfm_mutex.specs.calls.WakeUps.{as_list}
use Rattle.lfm_condvar.specs.Waits.{Enlists}
use Rattle.lfm_mutex.proofs.runs.Woken.{woken_from}
use Rattle.lfm_mutex.proofs.runs.RunGoesOn.{run_next}
use Rattle.lfm_condvar.proofs.waiters.enlist.enlist.Goals as goal

pub returns-clause-run : goal.returns-clause-run
returns-clause-run g c = run_next c.enlist_without_waking-ticket.ensures.run c.wake_from.ensures.run

pub returns-clause-enlists : goal.returns-clause-enlists
returns-clause-enlists g c = let o = c.enlist_without_waking-ticket in let a = c.args in subst (λ z. Enlists (limits_of a.mutex.now) a.by (sight a.seat.now) z a.waiters.now o.new.waiters o.result.0) (sym c.wake_from.ensures.same) o.ensures.enlists

pub returns-clause-woken : goal.returns-clause-woken
returns-clause-woken g c = let o = c.enlist_without_waking-ticket in
    woken_from c.args.seat.now o.new.seat c.wake_from.new.seat (as_list o.result.1) o.ensures.woken o.ensures.wakes.granted c.wake_from.ensures.woken c.wake_from.ensures.same
