use Rattle.std.proofs.Common.{rules}
use Rattle.lfm_core.proofs.stepped.State.queued.Goals as goal

pub returns : goal.returns
returns c = search rules
