use Rattle.std.proofs.Common.{rules}
use Rattle.lfm_bench.proofs.measure.contests.contest.Goals as goal

pub returns : goal.returns
returns c = search rules
