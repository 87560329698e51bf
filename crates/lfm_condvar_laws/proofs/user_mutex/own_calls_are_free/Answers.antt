use Rattle.lfm_condvar_laws.proofs.mutex.OwnCalls.{own_calls_are_free}
use Rattle.lfm_condvar_laws.proofs.user_mutex.own_calls_are_free.Goals as goal

pub returns : goal.returns
returns c = own_calls_are_free
