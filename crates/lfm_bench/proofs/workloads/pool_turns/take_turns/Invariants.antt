use Rattle.lfm_pool.specs.Calls.{IsBetweenCalls}
use Rattle.lfm_bench.proofs.workloads.pool_turns.take_turns.Given as goal

abbrev pub invariant-turns : goal.invariant-turns
invariant-turns g l = IsBetweenCalls l.seat l.shared.pool
