use Rattle.std.proofs.Common.{rules}
use Rattle.lfm_core.proofs.text.schedule_runs.run.Goals as goal

pub returns-in_err-turns-clause-unchanged : goal.returns-in_err-turns-clause-unchanged
returns-in_err-turns-clause-unchanged c = search rules
