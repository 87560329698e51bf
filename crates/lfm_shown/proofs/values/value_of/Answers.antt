use Rattle.std.proofs.Common.{rules}
use Rattle.lfm_shown.proofs.values.value_of.Goals as goal

pub returns-in-Link : goal.returns-in-Link
returns-in-Link c = search rules
