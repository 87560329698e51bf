use Rattle.std.proofs.Common.{rules}
use Rattle.lfm_core.proofs.stepped.State.count.Goals as goal

pub returns : goal.returns
returns c = search rules
