use Rattle.lfm_pool_laws.proofs.Runs.{mutexes_are_overtaken_once}
use Rattle.lfm_pool_laws.proofs.run_laws.mutexes_are_overtaken_once.Goals as goal

pub returns : goal.returns
returns c = mutexes_are_overtaken_once
