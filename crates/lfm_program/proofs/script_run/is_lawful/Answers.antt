use Rattle.std.proofs.Common.{rules}
use Rattle.lfm_program.proofs.script_run.is_lawful.Goals as goal

pub returns-clause-sound : goal.returns-clause-sound
returns-clause-sound c = search rules
