use Rattle.lfm_plain_condvar.proofs.Order.{tickets_keep_their_places}
use Rattle.lfm_plain_condvar.proofs.tickets.tickets_keep_their_places.Goals as goal

pub returns : goal.returns
returns c = tickets_keep_their_places
