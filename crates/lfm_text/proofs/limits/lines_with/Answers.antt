use Rattle.std.proofs.Common.{rules}
use Rattle.lfm_text.proofs.limits.lines_with.Goals as goal

pub returns-in_default : goal.returns-in_default
returns-in_default c = search rules
