use Rattle.lfm_condvar.proofs.Order.{waiters_are_sent_in_order}
use Rattle.lfm_condvar.proofs.laws.waiters_are_sent_in_order.Goals as goal

pub returns : goal.returns
returns c = waiters_are_sent_in_order
