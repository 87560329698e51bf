use Rattle.std.proofs.Common.{rules}
use Rattle.lfm_script.proofs.statuses.status.Goals as goal

pub returns-in-Ok-false : goal.returns-in-Ok-false
returns-in-Ok-false c = search rules

pub returns-in-Err-Stuck : goal.returns-in-Err-Stuck
returns-in-Err-Stuck c = search rules
