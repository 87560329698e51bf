use Rattle.std.proofs.Common.{rules}
use Rattle.lfm_protocol.proofs.machine.Machine.count_subtract.Goals as goal

pub returns-clause-core : goal.returns-clause-core
returns-clause-core c = search rules
