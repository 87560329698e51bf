use Rattle.std.proofs.Common.{rules}
use Rattle.lfm_script.proofs.script.Command.is_allowed.Goals as goal

pub returns-in-Add : goal.returns-in-Add
returns-in-Add c = search rules

pub returns-then-is_there : goal.returns-then-is_there
returns-then-is_there c = search rules
