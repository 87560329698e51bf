use Rattle.std.proofs.Common.{rules}
use Rattle.lfm_bench.proofs.measure.figures.Series.add.Goals as goal

pub returns : goal.returns
returns c = search rules
