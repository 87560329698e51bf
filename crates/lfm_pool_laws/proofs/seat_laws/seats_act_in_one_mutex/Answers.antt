use Rattle.lfm_pool_laws.proofs.Seats.{seats_act_in_one_mutex}
use Rattle.lfm_pool_laws.proofs.seat_laws.seats_act_in_one_mutex.Goals as goal

pub returns : goal.returns
returns c = seats_act_in_one_mutex
