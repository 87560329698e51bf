use Rattle.lfm_condvar_laws.proofs.reached.WaitsSent.{claims_are_in_order}
use Rattle.lfm_condvar_laws.proofs.claims.claims_are_in_order.Goals as goal

pub returns : goal.returns
returns c = claims_are_in_order
