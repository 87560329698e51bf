use Rattle.std.proofs.Common.{subst, sym, Ok, ap}
use Rattle.lfm_mutex.specs.Belongs.{limits_of}
use Rattle.lfm_mutex.specs.calls.Sections.{UnlocksSo, with_value}
use Rattle.lfm_mutex.specs.calls.Sight.{MayRelease, sight}
use Rattle.lfm_mutex.proofs.SectionEnds.{stands_after_lock, holds_after_lock}
use Rattle.lfm_mutex.specs.calls.WakeUps.{grants_of}
use Rattle.lfm_mutex.proofs.runs.Woken.{polls_join, may_poll, woken_join, woken_none}
use Rattle.lfm_table.proofs.tables.Actions.{run_next}
use Rattle.lfm_mutex.proofs.mutex.Mutex.with_in_order.Goals as goal

pub change-answer-requires-clause-holds : goal.change-answer-requires-clause-holds
change-answer-requires-clause-holds g c κs within = holds_after_lock g.T.Kept.follows g.T.Kept.fits (limits_of c.args.self.now).budget (sight c.args.seat.now) (sight c.lock.new.seat) c.in_ok-_locked._locked c.in_ok-_locked.ensures.locks

-- the value that the closure leaves may be left: a precondition of this call
pub unlock-requires-clause-leaves : goal.unlock-requires-clause-leaves
unlock-requires-clause-leaves g c κs within = let x = c.change-answer.ensures.changes in
    subst (λ s. MayRelease g.T.Kept.follows g.T.Kept.fits s) (sym x.4) (c.requires.keeps _ c.in_ok-_locked._locked x.0 x.1 _ (c.in_ok-_locked.ensures.locks, c.in_ok-_locked.ensures.steps) x.2 x.3)

-- the unlock leaves this value
left : (g : _) (c : goal.In-Ok g) → UnlocksSo (limits_of c.args.self.now) (with_value (sight c.lock.new.seat) c.change-answer.ensures.changes.1) (sight c.unlock.new.seat) (Ok c.in-Ok.field-0)
left g c = subst (λ s. UnlocksSo (limits_of c.args.self.now) s (sight c.unlock.new.seat) (Ok c.in-Ok.field-0)) c.change-answer.ensures.changes.4 (c.in-Ok.ensures.unlocks, c.in-Ok.ensures.steps)

pub returns-clause-section : goal.returns-clause-section
returns-clause-section g c = let x = c.change-answer.ensures.changes in record {
  held = sight c.lock.new.seat;
  locked = c.in_ok-_locked._locked;
  found = x.0;
  left = x.1;
  unlocked = c.in-Ok.field-0;
  holds = (c.in_ok-_locked.ensures.locks, c.in_ok-_locked.ensures.steps);
  finds = x.2;
  makes = x.3;
  leaves = left g c;
}

pub returns-clause-same : goal.returns-clause-same
returns-clause-same g c = stands_after_lock g.T.Kept.follows g.T.Kept.fits (limits_of c.args.self.now).budget (sight c.args.seat.now) (sight c.lock.new.seat) (sight c.unlock.new.seat)
    c.change-answer.ensures.changes.1 c.in_ok-_locked._locked c.in-Ok.field-0 c.in_ok-_locked.ensures.locks (left g c).0

pub returns-clause-woken : goal.returns-clause-woken
returns-clause-woken g c = let f = c.lock.new.seat in let k = c.change-answer in
    polls_join c.args.seat.now f c.unlock.new.seat c.lock.ensures.woken (may_poll f c.unlock.new.seat (woken_join f k.new.seat c.unlock.new.seat (woken_none f k.new.seat k.ensures.acts.woken (ap (λ s. grants_of s.trail) k.ensures.changes.4)) c.unlock.ensures.woken))

pub returns-clause-run : goal.returns-clause-run
returns-clause-run g c = run_next c.lock.ensures.run (run_next c.change-answer.ensures.acts.run c.unlock.ensures.run)
