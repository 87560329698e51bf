use Rattle.lfm_pool_laws.proofs.States.{mutexes_are_steady}
use Rattle.lfm_pool_laws.proofs.state_laws.mutexes_are_steady.Goals as goal

pub returns : goal.returns
returns c = mutexes_are_steady
