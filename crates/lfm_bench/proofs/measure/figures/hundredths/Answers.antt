use Rattle.std.proofs.Common.{rules}
use Rattle.lfm_bench.proofs.measure.figures.hundredths.Goals as goal

pub returns-clause-ratio : goal.returns-clause-ratio
returns-clause-ratio c = search rules
