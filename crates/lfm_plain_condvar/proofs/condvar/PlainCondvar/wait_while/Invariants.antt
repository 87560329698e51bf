use Rattle.std.proofs.Common.{◌≡◌, ℕ}
use Rattle.std.specs.Fn.{FnReturnsAt}
use Rattle.lfm_mutex.specs.Belongs.{Beside, OfMutex, limits_of, tries_of}
use Rattle.lfm_mutex.specs.calls.RunGoesOn.{RunGoesOnFrom}
use Rattle.lfm_mutex.specs.calls.Sight.{sight, MayRelease}
use Rattle.lfm_mutex.specs.calls.Woken.{PollsAndWakesAsGranted}
use Rattle.lfm_plain_condvar.specs.Belongs.{NotifiesNobody, OfPlain}
use Rattle.lfm_plain_condvar.specs.Repeated.{AllWaited}
use Rattle.lfm_plain_condvar.proofs.condvar.PlainCondvar.wait_while.Given as goal

-- the condition was true before each wait so far
abbrev pub invariant-waits : goal.invariant-waits
invariant-waits g l = record {
  belongs : OfPlain l.cond l.self × OfMutex l.seat l.mutex;
  beside : Beside l.fn.seat l.seat;
  run : RunGoesOnFrom l.fn.seat l.seat;
  woken : PollsAndWakesAsGranted l.fn.seat l.seat;
  cond_woken : PollsAndWakesAsGranted l.fn.cond.seat l.cond.seat;
  notifies : NotifiesNobody l.fn.cond l.cond;
  leaves : MayRelease g.T.Kept.follows g.T.Kept.fits (sight l.seat);
  depth : (sight l.seat).depth ≡ (sight l.fn.seat).depth;
  waits : (n : ℕ) × AllWaited g.T.Kept.follows g.T.Kept.fits (limits_of l.mutex) (limits_of l.self.inner) (tries_of l.self.inner) (tries_of l.mutex) (λ v b. FnReturnsAt g.F.Fn l.condition v b) n (sight l.fn.cond.seat) (sight l.cond.seat) (sight l.fn.seat) (sight l.seat);
}
