use Rattle.std.proofs.Common.{arith}
use Rattle.lfm_mutex.proofs.pace.Pace.for_processors.Goals as goal

pub returns-clause-one : goal.returns-clause-one
returns-clause-one c few = absurd (omega arith)
