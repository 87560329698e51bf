use Rattle.std.proofs.Common.{arith}
use Rattle.std.proofs.lemmas.Grind.{common_steps}
use Rattle.lfm_script.proofs.script.commands.reserve_commands.Goals as goal

pub reserving-preserved : goal.reserving-preserved
reserving-preserved c = grind (arith, common_steps)
