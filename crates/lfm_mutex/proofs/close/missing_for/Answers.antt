use Rattle.std.proofs.Common.{rules}
use Rattle.lfm_mutex.proofs.close.missing_for.Goals as goal

pub returns-then-asleep : goal.returns-then-asleep
returns-then-asleep g c = search rules

pub returns : goal.returns
returns g c = search rules
