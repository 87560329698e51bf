use Rattle.std.proofs.Common.{◌+◌, ◌-◌, Some, inl, inr, refl, arith, rules, None}
use Rattle.lfm_mutex.specs.calls.Barging.{MayTry}
use Rattle.lfm_mutex.specs.calls.Sight.{sight}
use Rattle.lfm_mutex.proofs.BargingEnds.{barges_on, locks_after, still_may_try, tries_fewer}
use Rattle.lfm_mutex.proofs.runs.Woken.{polls_join, may_poll, tries_grant, woken_none}
use Rattle.lfm_table.proofs.tables.Actions.{run_next}
use Rattle.lfm_mutex.proofs.mutex.Mutex.lock_barging.Goals as goal

pub barge-requires-clause-free : goal.barge-requires-clause-free
barge-requires-clause-free g c κs within = let m = c.args.self.now in let free : MayTry m.limits.budget (sight c.args.seat.now) = search rules in
    still_may_try m.limits (m.pace.spins - (m.pace.spins - 1)) (sight c.args.seat.now) (sight c.try_first.new.seat) c.in-None.ensures.tries free

pub returns-in-Some-clause-steps : goal.returns-in-Some-clause-steps
returns-in-Some-clause-steps g c = let p = c.args.self.now.pace in
    inl (tries_fewer c.args.self.now.limits (p.spins - (p.spins - 1)) (p.spins + p.naps) (sight c.args.seat.now) (sight c.try_first.new.seat) (Some c.in-Some.how) (omega arith) c.in-Some.ensures.tries)

pub returns-in-None-clause-locks : goal.returns-in-None-clause-locks
returns-in-None-clause-locks g c = let m = c.args.self.now in let free : MayTry m.limits.budget (sight c.args.seat.now) = search rules in
    locks_after g.T.Kept.follows g.T.Kept.fits m.limits (m.pace.spins - (m.pace.spins - 1)) (sight c.args.seat.now) (sight c.try_first.new.seat) (sight c.barge.new.seat) c.barge.result free c.in-None.ensures.tries c.barge.ensures.locks

pub returns-in-None-clause-steps : goal.returns-in-None-clause-steps
returns-in-None-clause-steps g c = let m = c.args.self.now in let free : MayTry m.limits.budget (sight c.args.seat.now) = search rules in
    barges_on g.T.Kept.follows g.T.Kept.fits m.limits (m.pace.spins - (m.pace.spins - 1)) (m.pace.spins - 1 + m.pace.naps) (m.pace.spins + m.pace.naps) (sight c.args.seat.now) (sight c.try_first.new.seat) (sight c.barge.new.seat) c.barge.result free (omega arith) c.in-None.ensures.tries c.barge.ensures.locks c.barge.ensures.steps

pub returns-in-Some-clause-first : goal.returns-in-Some-clause-first
returns-in-Some-clause-first g c = λ spins free. inl (c.in-Some.how, refl, c.in-Some.ensures.held c.in-Some.how refl)

pub returns-in-None-clause-first : goal.returns-in-None-clause-first
returns-in-None-clause-first g c = λ spins free. inr (sight c.try_first.new.seat, c.in-None.ensures.failed spins refl, c.barge.ensures.steps)

pub returns-in-Some-clause-woken : goal.returns-in-Some-clause-woken
returns-in-Some-clause-woken g c = let f = c.try_first in let p = c.args.self.now.pace in may_poll c.args.seat.now f.new.seat (woken_none c.args.seat.now f.new.seat f.ensures.acts.woken (tries_grant c.args.self.now.limits (p.spins - (p.spins - 1)) (sight c.args.seat.now) (sight f.new.seat) (Some c.in-Some.how) c.in-Some.ensures.tries))

pub returns-in-None-clause-woken : goal.returns-in-None-clause-woken
returns-in-None-clause-woken g c = let f = c.try_first in let p = c.args.self.now.pace in polls_join c.args.seat.now f.new.seat c.barge.new.seat (may_poll c.args.seat.now f.new.seat (woken_none c.args.seat.now f.new.seat f.ensures.acts.woken (tries_grant c.args.self.now.limits (p.spins - (p.spins - 1)) (sight c.args.seat.now) (sight f.new.seat) None c.in-None.ensures.tries))) c.barge.ensures.woken

pub returns-in-None-clause-run : goal.returns-in-None-clause-run
returns-in-None-clause-run g c = run_next c.try_first.ensures.acts.run c.barge.ensures.run
