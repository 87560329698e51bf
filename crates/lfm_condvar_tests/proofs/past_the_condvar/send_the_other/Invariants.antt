use Rattle.lfm_mutex.specs.Belongs.{OfMutex}
use Rattle.lfm_condvar_tests.proofs.past_the_condvar.send_the_other.Given as goal

abbrev pub invariant-sends : goal.invariant-sends
invariant-sends l = OfMutex l.seat l.mutex
