use Rattle.std.proofs.Common.{subst, sym}
use Rattle.lfm_mutex.specs.Belongs.{limits_of, tries_of}
use Rattle.lfm_mutex.specs.calls.Barging.{BargesBy}
use Rattle.lfm_mutex.specs.calls.Sight.{sight, LocksWaiting}
use Rattle.lfm_mutex.proofs.runs.RunGoesOn.{run_next}
use Rattle.lfm_mutex.proofs.runs.Woken.{polls_join, polls_once}
use Rattle.lfm_plain_condvar.specs.declared.parkers.woken.Woken.{Woken}
use Rattle.lfm_plain_condvar.specs.Waits.{LocksAsWoken}
use Rattle.lfm_plain_condvar.proofs.user.lock_again.Goals as goal

pub returns-in-Alone-clause-run : goal.returns-in-Alone-clause-run
returns-in-Alone-clause-run g c = run_next c.yields_or_queues-queues.ensures.run c.barge_or_queue.ensures.run

pub returns-in-Alone-clause-woken : goal.returns-in-Alone-clause-woken
returns-in-Alone-clause-woken g c = let s = c.args.seat.now in let y = c.yields_or_queues-queues.new.seat in
    polls_join s y c.barge_or_queue.new.seat (polls_once s y c.yields_or_queues-queues.ensures.woken c.yields_or_queues-queues.ensures.same) c.barge_or_queue.ensures.woken

pub returns-in-Alone-clause-locks : goal.returns-in-Alone-clause-locks
returns-in-Alone-clause-locks g c =
    subst (λ z. LocksWaiting g.T.Kept.follows g.T.Kept.fits (limits_of c.args.mutex.now).budget z (sight c.barge_or_queue.new.seat) c.barge_or_queue.result) c.yields_or_queues-queues.ensures.same c.barge_or_queue.ensures.locks

pub returns-in-Alone-clause-steps : goal.returns-in-Alone-clause-steps
returns-in-Alone-clause-steps g c = let m = c.args.mutex.now in
    subst (λ z. BargesBy (limits_of m) (tries_of m) z (sight c.barge_or_queue.new.seat) c.barge_or_queue.result) c.yields_or_queues-queues.ensures.same c.barge_or_queue.ensures.steps

pub returns-in-Alone-clause-as_woken : goal.returns-in-Alone-clause-as_woken
returns-in-Alone-clause-as_woken g c = let m = c.args.mutex.now in let same = c.yields_or_queues-queues.ensures.same in
    subst (λ (w : Woken). LocksAsWoken m.pace (limits_of m) w (sight c.args.seat.now) (sight c.barge_or_queue.new.seat) c.barge_or_queue.result) (sym c.in-Alone.is) (
    subst (λ z. LocksAsWoken m.pace (limits_of m) Woken.Alone z (sight c.barge_or_queue.new.seat) c.barge_or_queue.result) same c.barge_or_queue.ensures.first
    )
