use Rattle.lfm_pool_laws.proofs.States.{mutexes_have_one_owner}
use Rattle.lfm_pool_laws.proofs.state_laws.mutexes_have_one_owner.Goals as goal

pub returns : goal.returns
returns c = mutexes_have_one_owner
