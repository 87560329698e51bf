use Rattle.std.proofs.Common.{rules}
use Rattle.lfm_script.proofs.faults.WorkFaultFromInputFault.from.Goals as goal

pub returns-in-Read : goal.returns-in-Read
returns-in-Read c = search rules
