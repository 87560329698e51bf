use Rattle.lfm_pool.specs.Calls.{IsBetweenCalls}
use Rattle.lfm_pool_tests.proofs.threads.add_to_each.Given as goal

abbrev pub invariant-numbers : goal.invariant-numbers
invariant-numbers g l = IsBetweenCalls l.seat l.pool
