use Rattle.lfm_plain_condvar_laws.proofs.Order.{wakes_take_the_oldest}
use Rattle.lfm_plain_condvar_laws.proofs.waits.wakes_take_the_oldest.Goals as goal

pub returns : goal.returns
returns c = wakes_take_the_oldest
