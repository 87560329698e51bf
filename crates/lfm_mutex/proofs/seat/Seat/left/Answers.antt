use Rattle.std.proofs.Common.{rules}
use Rattle.lfm_mutex.proofs.seat.Seat.left.Goals as goal

pub returns : goal.returns
returns g c = search rules
