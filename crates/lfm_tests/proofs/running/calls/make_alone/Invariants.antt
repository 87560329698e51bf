use Rattle.lfm_mutex.specs.Belongs.{OfMutex}
use Rattle.lfm_tests.proofs.running.calls.make_alone.Given as goal

abbrev pub invariant-making : goal.invariant-making
invariant-making g l = OfMutex l.seat l.mutex
