use Rattle.std.proofs.Common.{◌≡◌, ◌≤◌}
use Rattle.lfm_pool.specs.Calls.{IsBetweenCalls}
use Rattle.lfm_bench.specs.PoolCalls.{MakesOften}
use Rattle.lfm_bench.proofs.workloads.pool_calls.pool_calls.Given as goal

-- if each call so far was counted, each did what it should
abbrev pub invariant-calls : goal.invariant-calls
invariant-calls g l =
    IsBetweenCalls l.seat l.pool
    × (l.done ≤ l.counter)
    × (l.done ≡ l.counter → MakesOften g.C.PoolCall.makes l.counter l.fn.seat l.seat l.pool)
