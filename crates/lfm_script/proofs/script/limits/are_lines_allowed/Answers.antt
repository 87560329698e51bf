use Rattle.std.proofs.Common.{arith}
use Rattle.std.proofs.lemmas.Grind.{common_steps}
use Rattle.lfm_script.proofs.script.limits.are_lines_allowed.Goals as goal

pub looking-preserved : goal.looking-preserved
looking-preserved c = grind (arith, common_steps)
