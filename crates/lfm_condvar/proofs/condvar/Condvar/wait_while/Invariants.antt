use Rattle.std.proofs.Common.{◌≡◌, ℕ}
use Rattle.std.specs.Fn.{FnReturnsAt}
use Rattle.lfm_mutex.specs.Belongs.{Beside, OfMutex, limits_of}
use Rattle.lfm_mutex.specs.calls.RunGoesOn.{RunGoesOnFrom}
use Rattle.lfm_mutex.specs.calls.Sight.{sight, MayRelease}
use Rattle.lfm_mutex.specs.calls.Woken.{PollsAndWakesAsGranted}
use Rattle.lfm_condvar.specs.Belongs.{CondWokenAsGranted, OfCondvar, cond_limits, cond_sight, cond_tries}
use Rattle.lfm_condvar.specs.Repeated.{AllWaited}
use Rattle.lfm_condvar.proofs.condvar.Condvar.wait_while.Given as goal

-- the condition held before each wait so far
abbrev pub invariant-waits : goal.invariant-waits
invariant-waits g l = record {
  belongs : OfCondvar l.cond l.self × OfMutex l.seat l.mutex;
  beside : Beside l.fn.seat l.seat;
  run : RunGoesOnFrom l.fn.seat l.seat;
  woken : PollsAndWakesAsGranted l.fn.seat l.seat;
  cond_woken : CondWokenAsGranted l.fn.cond l.cond;
  leaves : MayRelease g.T.Kept.follows g.T.Kept.fits (sight l.seat);
  depth : (sight l.seat).depth ≡ (sight l.fn.seat).depth;
  waits : (n : ℕ) × AllWaited g.T.Kept.follows g.T.Kept.fits (limits_of l.mutex) (cond_limits l.self) (cond_tries l.self) (λ v b. FnReturnsAt g.F.Fn l.condition v b) n (cond_sight l.fn.cond) (cond_sight l.cond) (sight l.fn.seat) (sight l.seat);
}
