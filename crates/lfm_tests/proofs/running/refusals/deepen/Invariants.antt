use Rattle.lfm_mutex.specs.Belongs.{OfMutex}
use Rattle.lfm_tests.proofs.running.refusals.deepen.Given as goal

abbrev pub invariant-deepening : goal.invariant-deepening
invariant-deepening g l = OfMutex l.seat l.mutex
