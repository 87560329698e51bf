use Rattle.lfm_mutex.specs.Belongs.{OfMutex}
use Rattle.lfm_condvar_tests.proofs.two_threads.read_until_added.Given as goal

abbrev pub invariant-reads : goal.invariant-reads
invariant-reads g l = OfMutex l.seat l.mutex
