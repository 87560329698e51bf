use Rattle.std.proofs.Common.{refl}
use Rattle.lfm_bench.proofs.workloads.pairs.PairPoolCall.of_pool.Goals as goal

pub returns-then-acquire-clause-made : goal.returns-then-acquire-clause-made
returns-then-acquire-clause-made g c = λ freed. (c.acquire.new.seat, c.if-acquire.ensures.acquired refl, c.free.ensures.freed freed)
