use Rattle.std.proofs.Common.{arith}
use Rattle.lfm_text.proofs.input.next_room.Goals as goal

pub returns-clause-lines : goal.returns-clause-lines
returns-clause-lines c = omega arith
