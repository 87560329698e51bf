use Rattle.lfm_condvar.proofs.Modelled.{lists_go_as_the_model}
use Rattle.lfm_condvar.proofs.laws.lists_go_as_the_model.Goals as goal

pub returns : goal.returns
returns g c = lists_go_as_the_model
