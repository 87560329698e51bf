use Rattle.std.proofs.Common.{rules}
use Rattle.lfm_core.proofs.text.schedule.read_header.Goals as goal

pub returns-in-None : goal.returns-in-None
returns-in-None c = search rules
