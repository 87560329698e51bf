use Rattle.lfm_pool.specs.Calls.{IsBetweenCalls}
use Rattle.example_buckets.proofs.add_often.Given as goal

abbrev pub invariant-rounds : goal.invariant-rounds
invariant-rounds g l = IsBetweenCalls l.seat l.table.pool
