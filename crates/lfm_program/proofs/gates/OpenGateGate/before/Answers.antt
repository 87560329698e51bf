use Rattle.std.proofs.Common.{refl}
use Rattle.lfm_program.proofs.gates.OpenGateGate.before.Goals as goal

pub returns : goal.returns
returns c = refl
