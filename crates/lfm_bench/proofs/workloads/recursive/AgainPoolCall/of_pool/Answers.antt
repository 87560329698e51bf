use Rattle.std.proofs.Common.{refl}
use Rattle.lfm_bench.proofs.workloads.recursive.AgainPoolCall.of_pool.Goals as goal

pub returns-then-deepen-clause-made : goal.returns-then-deepen-clause-made
returns-then-deepen-clause-made g c = λ lessened. (c.deepen.new.seat, c.if-deepen.ensures.deepened refl, c.lessen.ensures.lessened lessened)
