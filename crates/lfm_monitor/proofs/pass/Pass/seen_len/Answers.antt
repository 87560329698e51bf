use Rattle.std.proofs.Common.{refl}
use Rattle.lfm_monitor.proofs.pass.Pass.seen_len.Goals as goal

pub returns : goal.returns
returns g c = refl
