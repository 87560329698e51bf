use Rattle.lfm_pool_laws.proofs.Runs.{mutexes_serve_in_rounds}
use Rattle.lfm_pool_laws.proofs.run_laws.mutexes_serve_in_rounds.Goals as goal

pub returns : goal.returns
returns c = mutexes_serve_in_rounds
