use Rattle.std.proofs.Common.{Some, None}
use Rattle.lfm_mutex.specs.calls.Sight.{sight}
use Rattle.lfm_mutex.proofs.TimedTryEnds.{may_try_on, one_try, then_busy, then_held}
use Rattle.lfm_mutex.proofs.runs.Woken.{polls_join, polls_none, may_poll, tries_grant}
use Rattle.lfm_table.proofs.tables.Actions.{run_next}
use Rattle.lfm_mutex.proofs.mutex.Mutex.try_lock_for.Goals as goal

pub try_until-requires-clause-free : goal.try_until-requires-clause-free
try_until-requires-clause-free g c κs within = let e = c.in-Err-Busy.ensures in let m = sight c.try_lock.new.seat in
    may_try_on g.T.Kept.follows g.T.Kept.fits c.args.self.now.limits (sight c.args.seat.now) m m c.in-Err-Busy.field-0 c.in-Err-Busy.field-0-is e.locks e.steps

pub returns-in_default-2-clause-woken : goal.returns-in_default-2-clause-woken
returns-in_default-2-clause-woken g c = may_poll c.args.seat.now c.try_lock.new.seat c.try_lock.ensures.woken

pub returns-in_default-2-clause-locks : goal.returns-in_default-2-clause-locks
returns-in_default-2-clause-locks g c =
    one_try g.T.Kept.follows g.T.Kept.fits c.args.self.now.limits (sight c.args.seat.now) (sight c.try_lock.new.seat) c.try_lock.result c.try_lock.ensures.locks c.try_lock.ensures.steps

pub returns-in-Some-clause-woken : goal.returns-in-Some-clause-woken
returns-in-Some-clause-woken g c = let f = c.try_until in let tries = c.in-Some.ensures.tries in
    polls_join c.args.seat.now c.try_lock.new.seat f.new.seat (may_poll c.args.seat.now c.try_lock.new.seat c.try_lock.ensures.woken) (polls_none c.try_lock.new.seat f.new.seat f.ensures.acts.woken (tries_grant c.args.self.now.limits tries.0 (sight c.try_lock.new.seat) (sight f.new.seat) (Some c.in-Some.how) tries.1))

pub returns-in-Some-clause-run : goal.returns-in-Some-clause-run
returns-in-Some-clause-run g c = run_next c.try_lock.ensures.run c.try_until.ensures.acts.run

pub returns-in-Some-clause-locks : goal.returns-in-Some-clause-locks
returns-in-Some-clause-locks g c = let e = c.in-Err-Busy.ensures in
    then_held g.T.Kept.follows g.T.Kept.fits c.args.self.now.limits (sight c.args.seat.now) (sight c.try_lock.new.seat) (sight c.try_until.new.seat) c.in-Err-Busy.field-0 c.in-Err-Busy.field-0-is e.locks e.steps c.in-Some.how c.in-Some.ensures.gains c.in-Some.ensures.tries

pub returns-in-None-clause-woken : goal.returns-in-None-clause-woken
returns-in-None-clause-woken g c = let f = c.try_until in let tries = c.in-None.ensures.tries in
    polls_join c.args.seat.now c.try_lock.new.seat f.new.seat (may_poll c.args.seat.now c.try_lock.new.seat c.try_lock.ensures.woken) (polls_none c.try_lock.new.seat f.new.seat f.ensures.acts.woken (tries_grant c.args.self.now.limits tries.0 (sight c.try_lock.new.seat) (sight f.new.seat) None tries.1))

pub returns-in-None-clause-run : goal.returns-in-None-clause-run
returns-in-None-clause-run g c = run_next c.try_lock.ensures.run c.try_until.ensures.acts.run

pub returns-in-None-clause-locks : goal.returns-in-None-clause-locks
returns-in-None-clause-locks g c = let e = c.in-Err-Busy.ensures in
    then_busy g.T.Kept.follows g.T.Kept.fits c.args.self.now.limits (sight c.args.seat.now) (sight c.try_lock.new.seat) (sight c.try_until.new.seat) c.in-Err-Busy.field-0 c.in-Err-Busy.field-0-is e.locks e.steps c.in-None.ensures.tries
