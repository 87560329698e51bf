use Rattle.std.proofs.Common.{◌+◌, ◌-◌, Some, None}
use Rattle.lfm_mutex.specs.calls.Sight.{sight}
use Rattle.lfm_mutex.proofs.BargingEnds.{barges_after, locks_after}
use Rattle.lfm_mutex.proofs.runs.Woken.{polls_none, polls_join, tries_grant}
use Rattle.lfm_table.proofs.tables.Actions.{run_next}
use Rattle.lfm_mutex.proofs.mutex.Mutex.barge.Goals as goal

pub returns-in-None-clause-locks : goal.returns-in-None-clause-locks
returns-in-None-clause-locks g c = let m = c.args.self.now in
    locks_after g.T.Kept.follows g.T.Kept.fits m.limits (m.pace.spins - 1 + m.pace.naps) (sight c.args.seat.now) (sight c.spin_and_nap.new.seat) (sight c.lock.new.seat) c.lock.result c.requires.free c.in-None.ensures.tries c.lock.ensures.locks

pub returns-in-None-clause-steps : goal.returns-in-None-clause-steps
returns-in-None-clause-steps g c = let m = c.args.self.now in
    barges_after g.T.Kept.follows g.T.Kept.fits m.limits (m.pace.spins - 1 + m.pace.naps) (sight c.args.seat.now) (sight c.spin_and_nap.new.seat) (sight c.lock.new.seat) c.lock.result c.requires.free c.in-None.ensures.tries c.lock.ensures.locks c.lock.ensures.steps

pub returns-in-Some-clause-woken : goal.returns-in-Some-clause-woken
returns-in-Some-clause-woken g c = let f = c.spin_and_nap in let p = c.args.self.now.pace in polls_none c.args.seat.now f.new.seat f.ensures.acts.woken (tries_grant c.args.self.now.limits (p.spins - 1 + p.naps) (sight c.args.seat.now) (sight f.new.seat) (Some c.in-Some.how) c.in-Some.ensures.tries)

pub returns-in-None-clause-woken : goal.returns-in-None-clause-woken
returns-in-None-clause-woken g c = let f = c.spin_and_nap in let p = c.args.self.now.pace in polls_join c.args.seat.now f.new.seat c.lock.new.seat (polls_none c.args.seat.now f.new.seat f.ensures.acts.woken (tries_grant c.args.self.now.limits (p.spins - 1 + p.naps) (sight c.args.seat.now) (sight f.new.seat) None c.in-None.ensures.tries)) c.lock.ensures.woken

pub returns-in-None-clause-run : goal.returns-in-None-clause-run
returns-in-None-clause-run g c = run_next c.spin_and_nap.ensures.acts.run c.lock.ensures.run
