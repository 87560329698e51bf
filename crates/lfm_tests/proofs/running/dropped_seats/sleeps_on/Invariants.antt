use Rattle.lfm_mutex.specs.Belongs.{OfMutex}
use Rattle.lfm_tests.proofs.running.dropped_seats.sleeps_on.Given as goal

abbrev pub invariant-looking : goal.invariant-looking
invariant-looking g l = OfMutex l.seat l.mutex
