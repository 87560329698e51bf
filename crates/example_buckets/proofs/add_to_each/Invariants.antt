use Rattle.lfm_pool.specs.Calls.{IsBetweenCalls}
use Rattle.example_buckets.proofs.add_to_each.Given as goal

abbrev pub invariant-numbers : goal.invariant-numbers
invariant-numbers g l = IsBetweenCalls l.seat l.table.pool
