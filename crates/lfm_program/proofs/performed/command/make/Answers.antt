use Rattle.std.proofs.Common.{rules}
use Rattle.lfm_program.proofs.performed.command.make.Goals as goal

pub returns-in-Add-clause-refused : goal.returns-in-Add-clause-refused
returns-in-Add-clause-refused g c = search rules
