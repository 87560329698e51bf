use Rattle.lfm_condvar_laws.proofs.reached.ListsEmptied.{wakes_empty_the_list}
use Rattle.lfm_condvar_laws.proofs.lists.wakes_empty_the_list.Goals as goal

pub returns : goal.returns
returns c = wakes_empty_the_list
