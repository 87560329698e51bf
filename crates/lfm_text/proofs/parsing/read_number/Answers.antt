use Rattle.std.proofs.Common.{rules}
use Rattle.lfm_text.proofs.parsing.read_number.Goals as goal

pub returns-in_default : goal.returns-in_default
returns-in_default c = search rules

pub returns-in_default-2 : goal.returns-in_default-2
returns-in_default-2 c = search rules
