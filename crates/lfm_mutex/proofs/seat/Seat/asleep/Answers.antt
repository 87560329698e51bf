use Rattle.std.proofs.Common.{rules}
use Rattle.lfm_mutex.proofs.seat.Seat.asleep.Goals as goal

pub returns : goal.returns
returns g c = search rules
