use Rattle.lfm_plain_condvar.proofs.Modelled.{plain_lists_go_as_the_model}
use Rattle.lfm_plain_condvar.proofs.tickets.plain_lists_go_as_the_model.Goals as goal

pub returns : goal.returns
returns c = plain_lists_go_as_the_model
