use Rattle.lfm_mutex.specs.Belongs.{OfMutex}
use Rattle.lfm_thread_tests.proofs.mutex.workers.try_times.Given as goal

abbrev pub invariant-trying : goal.invariant-trying
invariant-trying l = OfMutex l.seat l.mutex
