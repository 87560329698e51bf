use Rattle.lfm_pool_laws.proofs.Runs.{mutexes_have_a_run}
use Rattle.lfm_pool_laws.proofs.state_laws.mutexes_have_a_run.Goals as goal

pub returns : goal.returns
returns c = mutexes_have_a_run
