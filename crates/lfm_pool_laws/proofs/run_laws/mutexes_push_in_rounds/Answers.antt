use Rattle.lfm_pool_laws.proofs.Runs.{mutexes_push_in_rounds}
use Rattle.lfm_pool_laws.proofs.run_laws.mutexes_push_in_rounds.Goals as goal

pub returns : goal.returns
returns c = mutexes_push_in_rounds
