use Rattle.lfm_pool_laws.proofs.States.{one_has_the_responsibility_for_each}
use Rattle.lfm_pool_laws.proofs.state_laws.one_has_the_responsibility_for_each.Goals as goal

pub returns : goal.returns
returns c = one_has_the_responsibility_for_each
