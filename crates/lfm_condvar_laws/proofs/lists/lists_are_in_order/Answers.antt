use Rattle.lfm_condvar_laws.proofs.reached.ListOrder.{lists_are_in_order}
use Rattle.lfm_condvar_laws.proofs.lists.lists_are_in_order.Goals as goal

pub returns : goal.returns
returns c = lists_are_in_order
