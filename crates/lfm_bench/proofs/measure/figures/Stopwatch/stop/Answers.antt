use Rattle.std.proofs.Common.{rules}
use Rattle.lfm_bench.proofs.measure.figures.Stopwatch.stop.Goals as goal

pub returns-clause-exact : goal.returns-clause-exact
returns-clause-exact g c = search rules
