use Rattle.lfm_condvar_laws.proofs.reached.SleepersListed.{sleepers_are_listed}
use Rattle.lfm_condvar_laws.proofs.lists.sleepers_are_listed.Goals as goal

pub returns : goal.returns
returns c = sleepers_are_listed
