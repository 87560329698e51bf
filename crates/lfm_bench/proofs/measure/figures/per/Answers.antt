use Rattle.std.proofs.Common.{rules}
use Rattle.lfm_bench.proofs.measure.figures.per.Goals as goal

pub returns-else-parts-eq0-clause-share : goal.returns-else-parts-eq0-clause-share
returns-else-parts-eq0-clause-share c = search rules
