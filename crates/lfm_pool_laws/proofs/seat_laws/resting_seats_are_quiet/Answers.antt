use Rattle.lfm_pool_laws.proofs.Seats.{resting_seats_are_quiet}
use Rattle.lfm_pool_laws.proofs.seat_laws.resting_seats_are_quiet.Goals as goal

pub returns : goal.returns
returns c = resting_seats_are_quiet
