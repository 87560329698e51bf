use Rattle.lfm_mutex.specs.calls.Sight.{sight}
use Rattle.lfm_mutex.proofs.runs.ShortCalls.{tries_few}
use Rattle.lfm_mutex.proofs.runs.TryEnds.{try_locks, try_makes}
use Rattle.lfm_mutex.proofs.runs.Woken.{woken_none, try_lock_grants}
use Rattle.lfm_mutex.proofs.mutex.Mutex.try_lock.Goals as goal

pub returns-then-seat-budget-clause-locks : goal.returns-then-seat-budget-clause-locks
returns-then-seat-budget-clause-locks g c = try_locks g.T.Kept.follows g.T.Kept.fits c.args.self.now.limits (sight c.args.seat.now) (sight c.try_without_hold.new.seat) c.try_without_hold.result c.try_without_hold.ensures.made

pub returns-then-seat-budget-clause-steps : goal.returns-then-seat-budget-clause-steps
returns-then-seat-budget-clause-steps g c = try_makes g.T.Kept.follows g.T.Kept.fits c.args.self.now.limits (sight c.args.seat.now) (sight c.try_without_hold.new.seat) c.try_without_hold.result c.try_without_hold.ensures.made

pub returns-then-seat-budget-clause-belongs : goal.returns-then-seat-budget-clause-belongs
returns-then-seat-budget-clause-belongs g c = c.try_without_hold.ensures.acts.belongs

pub returns-then-seat-lt-MAX_DEPTH-clause-locks : goal.returns-then-seat-lt-MAX_DEPTH-clause-locks
returns-then-seat-lt-MAX_DEPTH-clause-locks g c = try_locks g.T.Kept.follows g.T.Kept.fits c.args.self.now.limits (sight c.args.seat.now) (sight c.try_with_hold.new.seat) c.try_with_hold.result c.try_with_hold.ensures.made

pub returns-then-seat-lt-MAX_DEPTH-clause-steps : goal.returns-then-seat-lt-MAX_DEPTH-clause-steps
returns-then-seat-lt-MAX_DEPTH-clause-steps g c = try_makes g.T.Kept.follows g.T.Kept.fits c.args.self.now.limits (sight c.args.seat.now) (sight c.try_with_hold.new.seat) c.try_with_hold.result c.try_with_hold.ensures.made

pub returns-then-seat-lt-MAX_DEPTH-clause-belongs : goal.returns-then-seat-lt-MAX_DEPTH-clause-belongs
returns-then-seat-lt-MAX_DEPTH-clause-belongs g c = c.try_with_hold.ensures.acts.belongs

pub returns-then-asleep-clause-belongs : goal.returns-then-asleep-clause-belongs
returns-then-asleep-clause-belongs g c = c.try_slow.ensures.acts.belongs

pub returns-then-asleep-clause-locks : goal.returns-then-asleep-clause-locks
returns-then-asleep-clause-locks g c = c.try_slow.ensures.locks

pub returns-then-asleep-clause-steps : goal.returns-then-asleep-clause-steps
returns-then-asleep-clause-steps g c = c.try_slow.ensures.steps

pub returns-then-seat-budget-clause-bounded : goal.returns-then-seat-budget-clause-bounded
returns-then-seat-budget-clause-bounded g c = let l = c.args.self.now.limits in let s = sight c.args.seat.now in let t = sight c.try_without_hold.new.seat in
    tries_few g.T.Kept.follows g.T.Kept.fits l s t c.try_without_hold.result (try_locks g.T.Kept.follows g.T.Kept.fits l s t c.try_without_hold.result c.try_without_hold.ensures.made) (try_makes g.T.Kept.follows g.T.Kept.fits l s t c.try_without_hold.result c.try_without_hold.ensures.made)

pub returns-then-seat-lt-MAX_DEPTH-clause-bounded : goal.returns-then-seat-lt-MAX_DEPTH-clause-bounded
returns-then-seat-lt-MAX_DEPTH-clause-bounded g c = let l = c.args.self.now.limits in let s = sight c.args.seat.now in let t = sight c.try_with_hold.new.seat in
    tries_few g.T.Kept.follows g.T.Kept.fits l s t c.try_with_hold.result (try_locks g.T.Kept.follows g.T.Kept.fits l s t c.try_with_hold.result c.try_with_hold.ensures.made) (try_makes g.T.Kept.follows g.T.Kept.fits l s t c.try_with_hold.result c.try_with_hold.ensures.made)

pub returns-then-seat-budget-clause-woken : goal.returns-then-seat-budget-clause-woken
returns-then-seat-budget-clause-woken g c = let r = c.try_without_hold in woken_none c.args.seat.now r.new.seat r.ensures.acts.woken (try_lock_grants c.args.self.now.limits (sight c.args.seat.now) (sight r.new.seat) r.result (returns-then-seat-budget-clause-steps g c))

pub returns-then-seat-lt-MAX_DEPTH-clause-woken : goal.returns-then-seat-lt-MAX_DEPTH-clause-woken
returns-then-seat-lt-MAX_DEPTH-clause-woken g c = let r = c.try_with_hold in woken_none c.args.seat.now r.new.seat r.ensures.acts.woken (try_lock_grants c.args.self.now.limits (sight c.args.seat.now) (sight r.new.seat) r.result (returns-then-seat-lt-MAX_DEPTH-clause-steps g c))

pub returns-then-asleep-clause-woken : goal.returns-then-asleep-clause-woken
returns-then-asleep-clause-woken g c = let r = c.try_slow in woken_none c.args.seat.now r.new.seat r.ensures.acts.woken (try_lock_grants c.args.self.now.limits (sight c.args.seat.now) (sight r.new.seat) r.result (c.try_slow.ensures.steps))

pub returns-then-seat-eq0-clause-woken : goal.returns-then-seat-eq0-clause-woken
returns-then-seat-eq0-clause-woken g c = let r = c.try_slow-then-seat-eq0 in woken_none c.args.seat.now r.new.seat r.ensures.acts.woken (try_lock_grants c.args.self.now.limits (sight c.args.seat.now) (sight r.new.seat) r.result r.ensures.steps)

pub returns-clause-woken : goal.returns-clause-woken
returns-clause-woken g c = let r = c.try_slow-2 in woken_none c.args.seat.now r.new.seat r.ensures.acts.woken (try_lock_grants c.args.self.now.limits (sight c.args.seat.now) (sight r.new.seat) r.result r.ensures.steps)
