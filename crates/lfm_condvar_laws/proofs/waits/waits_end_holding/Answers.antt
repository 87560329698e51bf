use Rattle.lfm_condvar_laws.proofs.reached.WaitsSent.{waits_end_holding}
use Rattle.lfm_condvar_laws.proofs.waits.waits_end_holding.Goals as goal

pub returns : goal.returns
returns c = waits_end_holding
