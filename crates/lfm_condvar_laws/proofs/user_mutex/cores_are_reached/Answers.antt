use Rattle.lfm_condvar_laws.proofs.mutex.MutexRuns.{cores_are_reached}
use Rattle.lfm_condvar_laws.proofs.user_mutex.cores_are_reached.Goals as goal

pub returns : goal.returns
returns c = cores_are_reached
