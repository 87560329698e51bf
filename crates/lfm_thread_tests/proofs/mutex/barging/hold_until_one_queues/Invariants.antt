use Rattle.lfm_mutex.specs.Belongs.{OfMutex}
use Rattle.lfm_thread_tests.proofs.mutex.barging.hold_until_one_queues.Given as goal

abbrev pub invariant-holding : goal.invariant-holding
invariant-holding g l = OfMutex l.seat l.mutex
