use Rattle.std.proofs.Common.{subst}
use Rattle.lfm_mutex.specs.Belongs.{limits_of}
use Rattle.lfm_mutex.specs.calls.Sight.{sight}
use Rattle.lfm_condvar.specs.Belongs.{cond_limits, cond_sight, cond_tries}
use Rattle.lfm_condvar.specs.Waits.{ComesBack}
use Rattle.lfm_condvar.proofs.Enlisted.{ends_refused}
use Rattle.lfm_mutex.proofs.runs.Woken.{polls_join, polls_once, may_poll}
use Rattle.lfm_mutex.proofs.runs.RunGoesOn.{run_next}
use Rattle.lfm_condvar.proofs.condvar.Condvar.wait.Goals as goal

pub returns-clause-run : goal.returns-clause-run
returns-clause-run g c = run_next c.begin_wait_counted.ensures.run (run_next c.count_from.ensures.run c.receive_lock_within.ensures.run)

pub returns-in_err-enlisted-clause-waits : goal.returns-in_err-enlisted-clause-waits
returns-in_err-enlisted-clause-waits g c =
    ends_refused g.T.Kept.follows g.T.Kept.fits (limits_of c.args.mutex.now) (cond_limits c.args.self.now) (cond_tries c.args.self.now) (cond_sight c.args.cond.now) _ (sight c.args.seat.now) _ _ _ c.from_residual.ensures.1
    c.in_err-enlisted.ensures.begins

pub returns-clause-waits : goal.returns-clause-waits
returns-clause-waits g c = let r = c.in-Ok.ensures in (
  sight c.begin_wait_counted.new.seat,
  c.in_ok-enlisted.ensures.begins,
  subst (λ z. ComesBack g.T.Kept.follows g.T.Kept.fits (limits_of c.args.mutex.now) c.in-Ok.how z (sight c.receive_lock_within.new.seat)) c.count_from.ensures.same (r.receives, r.steps),
)

pub returns-clause-woken : goal.returns-clause-woken
returns-clause-woken g c = let s = c.args.seat.now in let b = c.begin_wait_counted.new.seat in let n = c.count_from.new.seat in let t = c.receive_lock_within.new.seat in
    polls_join s b t (may_poll s b c.begin_wait_counted.ensures.woken) (polls_join b n t (polls_once b n c.count_from.ensures.woken c.count_from.ensures.same) c.receive_lock_within.ensures.woken)
