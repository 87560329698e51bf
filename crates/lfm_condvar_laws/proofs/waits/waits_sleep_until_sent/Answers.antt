use Rattle.lfm_condvar_laws.proofs.reached.WaitsSent.{waits_sleep_until_sent}
use Rattle.lfm_condvar_laws.proofs.waits.waits_sleep_until_sent.Goals as goal

pub returns : goal.returns
returns c = waits_sleep_until_sent
