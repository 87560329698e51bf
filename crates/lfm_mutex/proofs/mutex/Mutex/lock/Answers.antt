use Rattle.std.proofs.Common.{rules, ◌≡◌, Err, inl, inr}
use Rattle.lfm_mutex.specs.calls.Sight.{sight}
use Rattle.lfm_mutex.proofs.runs.Woken.{polls_join, may_poll}
use Rattle.lfm_table.proofs.tables.Actions.{run_next}
use Rattle.lfm_mutex.proofs.mutex.Mutex.lock.Goals as goal

pub returns-in_err-how-clause-steps : goal.returns-in_err-how-clause-steps
returns-in_err-how-clause-steps g c = let e : c.from_residual.result ≡ Err c.in_err-how.field-0.0 = search rules in rw e c.in_err-how.ensures.steps

pub returns-in-Held-clause-steps : goal.returns-in-Held-clause-steps
returns-in-Held-clause-steps g c = inl (rw c.in-Held.is at c.in_ok-how.ensures.steps)

pub returns-in-Again-clause-steps : goal.returns-in-Again-clause-steps
returns-in-Again-clause-steps g c = rw c.in-Again.is at c.in_ok-how.ensures.steps

pub returns-in_ok-how-in-Asleep-clause-steps : goal.returns-in_ok-how-in-Asleep-clause-steps
returns-in_ok-how-in-Asleep-clause-steps g c = inr (sight c.ask.new.seat, rw c.in-Asleep.is at c.in_ok-how.ensures.steps, c.in_ok-how-in-Asleep.ensures.steps)

pub returns-in-Again-clause-locks : goal.returns-in-Again-clause-locks
returns-in-Again-clause-locks g c = rw c.in-Again.is at c.in_ok-how.ensures.asks

pub returns-in_ok-how-in-Asleep-clause-woken : goal.returns-in_ok-how-in-Asleep-clause-woken
returns-in_ok-how-in-Asleep-clause-woken g c = polls_join c.args.seat.now c.ask.new.seat c.receive_lock.new.seat (may_poll c.args.seat.now c.ask.new.seat c.ask.ensures.woken) c.receive_lock.ensures.woken

pub returns-in_ok-how-in-Asleep-clause-run : goal.returns-in_ok-how-in-Asleep-clause-run
returns-in_ok-how-in-Asleep-clause-run g c = run_next c.ask.ensures.run c.receive_lock.ensures.run
