use Rattle.lfm_condvar_laws.proofs.reached.ListOrder.{waits_are_new}
use Rattle.lfm_condvar_laws.proofs.waits.waits_are_new.Goals as goal

pub returns : goal.returns
returns c = waits_are_new
