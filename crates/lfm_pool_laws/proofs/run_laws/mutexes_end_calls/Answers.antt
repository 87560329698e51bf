use Rattle.lfm_pool_laws.proofs.Runs.{mutexes_end_calls}
use Rattle.lfm_pool_laws.proofs.run_laws.mutexes_end_calls.Goals as goal

pub returns : goal.returns
returns c = mutexes_end_calls
