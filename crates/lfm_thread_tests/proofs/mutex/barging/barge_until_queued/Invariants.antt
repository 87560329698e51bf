use Rattle.lfm_mutex.specs.Belongs.{OfMutex}
use Rattle.lfm_thread_tests.proofs.mutex.barging.barge_until_queued.Given as goal

abbrev pub invariant-locking : goal.invariant-locking
invariant-locking g l = OfMutex l.seat l.mutex
