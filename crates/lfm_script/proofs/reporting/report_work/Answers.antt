use Rattle.std.proofs.Common.{rules}
use Rattle.lfm_script.proofs.reporting.report_work.Goals as goal

pub returns : goal.returns
returns g c = search rules
