use Rattle.std.proofs.Common.{refl}
use Rattle.lfm_text.proofs.input.read_once.Goals as goal

pub returns-in-Err-clause-bytes : goal.returns-in-Err-clause-bytes
returns-in-Err-clause-bytes g c = c.in-Err.ensures.bytes

pub returns-in-Err-clause-fault : goal.returns-in-Err-clause-fault
returns-in-Err-clause-fault g c = refl
