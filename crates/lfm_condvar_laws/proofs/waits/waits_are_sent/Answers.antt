use Rattle.lfm_condvar_laws.proofs.reached.WaitsSent.{waits_are_sent}
use Rattle.lfm_condvar_laws.proofs.waits.waits_are_sent.Goals as goal

pub returns : goal.returns
returns c = waits_are_sent
