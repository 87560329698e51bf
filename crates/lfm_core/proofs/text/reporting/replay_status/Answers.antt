use Rattle.std.proofs.Common.{rules}
use Rattle.lfm_core.proofs.text.reporting.replay_status.Goals as goal

pub returns-in-Ok-false : goal.returns-in-Ok-false
returns-in-Ok-false c = search rules
