use Rattle.lfm_condvar_laws.proofs.reached.WaitsSent.{tickets_are_claimed_once}
use Rattle.lfm_condvar_laws.proofs.claims.tickets_are_claimed_once.Goals as goal

pub returns : goal.returns
returns c = tickets_are_claimed_once
