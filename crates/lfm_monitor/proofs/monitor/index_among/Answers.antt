use Rattle.std.proofs.Common.{rules}
use Rattle.lfm_monitor.proofs.monitor.index_among.Goals as goal

pub returns-then-condition-eq0 : goal.returns-then-condition-eq0
returns-then-condition-eq0 c = search rules
