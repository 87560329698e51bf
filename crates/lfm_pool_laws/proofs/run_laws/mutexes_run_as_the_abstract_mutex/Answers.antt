use Rattle.lfm_pool_laws.proofs.Runs.{mutexes_run_as_the_abstract_mutex}
use Rattle.lfm_pool_laws.proofs.run_laws.mutexes_run_as_the_abstract_mutex.Goals as goal

pub returns : goal.returns
returns c = mutexes_run_as_the_abstract_mutex
