use Rattle.std.proofs.Common.{refl}
use Rattle.lfm_mutex.proofs.mutex.Mutex.set_pace.Goals as goal

pub returns-clause-pace : goal.returns-clause-pace
returns-clause-pace g c = refl
