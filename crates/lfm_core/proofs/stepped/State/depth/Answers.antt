use Rattle.std.proofs.Common.{rules}
use Rattle.lfm_core.proofs.stepped.State.depth.Goals as goal

pub returns : goal.returns
returns c = search rules
