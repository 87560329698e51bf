use Rattle.lfm_pool_laws.proofs.States.{calls_in_mutexes_are_bounded}
use Rattle.lfm_pool_laws.proofs.state_laws.calls_in_mutexes_are_bounded.Goals as goal

pub returns : goal.returns
returns c = calls_in_mutexes_are_bounded
