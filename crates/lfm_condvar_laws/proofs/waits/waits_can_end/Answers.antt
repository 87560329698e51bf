use Rattle.lfm_condvar_laws.proofs.reached.OneWait.{waits_can_end}
use Rattle.lfm_condvar_laws.proofs.waits.waits_can_end.Goals as goal

pub returns : goal.returns
returns c = waits_can_end
