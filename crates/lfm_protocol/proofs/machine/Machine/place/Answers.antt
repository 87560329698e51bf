use Rattle.std.proofs.Common.{rules}
use Rattle.lfm_protocol.proofs.machine.Machine.place.Goals as goal

pub returns-then-self-ne0-2 : goal.returns-then-self-ne0-2
returns-then-self-ne0-2 c = search rules
