use Rattle.lfm_condvar_laws.proofs.reached.ListOrder.{waiters_are_listed}
use Rattle.lfm_condvar_laws.proofs.lists.waiters_are_listed.Goals as goal

pub returns : goal.returns
returns c = waiters_are_listed
