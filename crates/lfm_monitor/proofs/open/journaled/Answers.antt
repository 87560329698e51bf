use Rattle.std.proofs.Common.{rules}
use Rattle.lfm_monitor.proofs.open.journaled.Goals as goal

pub invariant_of-result : goal.invariant_of-result
invariant_of-result g c = search rules
