use Rattle.std.proofs.Common.{rules}
use Rattle.lfm_script.proofs.faults.WorkFaultFromAllocError.from.Goals as goal

pub returns : goal.returns
returns c = search rules
