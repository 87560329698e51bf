use Rattle.lfm_condvar_laws.proofs.reached.PushOrder.{pushes_are_in_order}
use Rattle.lfm_condvar_laws.proofs.claims.pushes_are_in_order.Goals as goal

pub returns : goal.returns
returns c = pushes_are_in_order
