use Rattle.lfm_mutex.specs.Belongs.{limits_of}
use Rattle.lfm_mutex.specs.calls.Sight.{sight}
use Rattle.lfm_condvar.specs.Belongs.{cond_limits, cond_sight, cond_tries}
use Rattle.lfm_condvar.specs.Waits.{ticket_of, BeginWaitEnds}
use Rattle.lfm_condvar.proofs.Enlisted.{ends_enlisted, found_ahead}
use Rattle.std.proofs.Common.{subst, sym, refl}
use Rattle.lfm_mutex.specs.calls.WakeUps.{as_list}
use Rattle.lfm_mutex.proofs.runs.Woken.{woken_from, woken_none}
use Rattle.lfm_mutex.proofs.runs.RunGoesOn.{run_next}
use Rattle.lfm_condvar.proofs.condvar.Condvar.begin_wait_counted.Goals as goal

pub returns-clause-run : goal.returns-clause-run
returns-clause-run g c = run_next c.enlist_in_one_hold-enlisted.ensures.run c.wake_from.ensures.run

pub returns-clause-begins : goal.returns-clause-begins
returns-clause-begins g c = let e = c.enlist_in_one_hold-enlisted.ensures.enlists in
    let o = c.enlist_in_one_hold-enlisted in let a = c.args in
    subst (λ z. BeginWaitEnds (limits_of a.mutex.now) (cond_limits a.self.now) (cond_tries a.self.now) (cond_sight a.cond.now) (cond_sight o.new.cond) (sight a.seat.now) z (ticket_of o.result.0)) (sym c.wake_from.ensures.same)
    (ends_enlisted (limits_of a.mutex.now) (cond_limits a.self.now) (cond_tries a.self.now) (cond_sight a.cond.now) (cond_sight o.new.cond) (sight a.seat.now) (sight o.new.seat) (ticket_of o.result.0) o.ensures.busy
    (e.0, e.1, e.2, e.3, o.ensures.steps))

pub returns-clause-ahead : goal.returns-clause-ahead
returns-clause-ahead g c = let e = c.enlist_in_one_hold-enlisted.ensures.enlists in found_ahead (cond_sight c.enlist_in_one_hold-enlisted.new.cond) e.0 c.enlist_in_one_hold-enlisted.result.0 e.2.found e.4

pub returns-clause-woken : goal.returns-clause-woken
returns-clause-woken g c = let o = c.enlist_in_one_hold-enlisted in
    woken_from c.args.seat.now o.new.seat c.wake_from.new.seat (as_list o.result.1) o.ensures.woken o.ensures.wakes.granted c.wake_from.ensures.woken c.wake_from.ensures.same

-- a wait that is refused before the list is locked wakes nobody

pub returns-in-Some-clause-woken : goal.returns-in-Some-clause-woken
returns-in-Some-clause-woken g c = woken_none c.args.seat.now c.args.seat.now refl refl

pub returns-then-left-eq0-clause-woken : goal.returns-then-left-eq0-clause-woken
returns-then-left-eq0-clause-woken g c = woken_none c.args.seat.now c.args.seat.now refl refl

pub returns-then-get-self-clause-woken : goal.returns-then-get-self-clause-woken
returns-then-get-self-clause-woken g c = woken_none c.args.seat.now c.args.seat.now refl refl
