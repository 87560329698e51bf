use Rattle.lfm_plain_condvar_laws.proofs.Places.{tickets_are_in_one_place}
use Rattle.lfm_plain_condvar_laws.proofs.waits.tickets_are_in_one_place.Goals as goal

pub returns : goal.returns
returns c = tickets_are_in_one_place
