use Rattle.lfm_laws.proofs.lawful.refusals.BusyTries.{tries_see_a_holder}
use Rattle.lfm_laws.proofs.refusals.tries_see_a_holder.Goals as goal

pub returns : goal.returns
returns c = tries_see_a_holder
