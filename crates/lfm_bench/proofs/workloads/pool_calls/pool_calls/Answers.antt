use Rattle.std.proofs.Common.{◌≤◌, ◌+◌, arith}
use Rattle.lfm_bench.proofs.MadeCalls.{one_more}
use Rattle.lfm_bench.proofs.workloads.pool_calls.pool_calls.Goals as goal

pub calls-preserved : goal.calls-preserved
calls-preserved g c =
    let call = c.count_call-made in
    let kept = c.calls.invariant in
    let few : c.calls.done ≤ c.calls.counter = kept.1 in
    let one : call.result ≤ 1 = call.ensures.most in
    let now : c.calls.done + call.result ≤ c.calls.counter + 1 = omega arith in (
      call.ensures.between,
      now,
      one_more g.C.PoolCall.makes c.calls.done call.result c.calls.counter _ c.args.seat.now c.calls.seat call.new.seat c.args.pool.now few one kept.2 call.ensures.made,
    )
