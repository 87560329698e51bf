use Rattle.lfm_mutex.specs.Belongs.{OfMutex}
use Rattle.lfm_tests.proofs.running.refusals.leave.Given as goal

abbrev pub invariant-leaving : goal.invariant-leaving
invariant-leaving g l = OfMutex l.seat l.mutex
