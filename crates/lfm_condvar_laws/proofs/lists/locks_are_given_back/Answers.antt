use Rattle.lfm_condvar_laws.proofs.reached.LocksBack.{locks_are_given_back}
use Rattle.lfm_condvar_laws.proofs.lists.locks_are_given_back.Goals as goal

pub returns : goal.returns
returns c = locks_are_given_back
