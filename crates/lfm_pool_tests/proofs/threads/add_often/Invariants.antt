use Rattle.lfm_pool.specs.Calls.{IsBetweenCalls}
use Rattle.lfm_pool_tests.proofs.threads.add_often.Given as goal

abbrev pub invariant-rounds : goal.invariant-rounds
invariant-rounds g l = IsBetweenCalls l.seat l.pool
