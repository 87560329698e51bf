use Rattle.std.proofs.Common.{rules}
use Rattle.lfm_core.proofs.stepped.State.seats.Goals as goal

pub returns-clause-number : goal.returns-clause-number
returns-clause-number c = search rules
