use Rattle.std.proofs.Common.{rules}
use Rattle.lfm_protocol.proofs.machine.Machine.clear_head.Goals as goal

pub returns-clause-core : goal.returns-clause-core
returns-clause-core c = search rules
