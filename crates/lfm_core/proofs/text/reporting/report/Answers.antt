use Rattle.std.proofs.Common.{rules}
use Rattle.lfm_core.proofs.text.reporting.report.Goals as goal

pub returns : goal.returns
returns g c = search rules
