use Rattle.std.proofs.Common.{rules}
use Rattle.lfm_bench.proofs.measure.bare.bare_table.Goals as goal

pub returns : goal.returns
returns c = search rules
