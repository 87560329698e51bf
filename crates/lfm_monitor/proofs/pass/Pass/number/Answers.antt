use Rattle.std.proofs.Common.{rules}
use Rattle.lfm_monitor.proofs.pass.Pass.number.Goals as goal

pub returns : goal.returns
returns g c = search rules
