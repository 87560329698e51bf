use Rattle.std.proofs.Common.{rules}
use Rattle.lfm_script.proofs.script.reading.read_short_command.Goals as goal

pub returns-then-eq-3 : goal.returns-then-eq-3
returns-then-eq-3 c = search rules
