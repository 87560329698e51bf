use Rattle.std.proofs.Common.{refl}
use Rattle.lfm_mutex.proofs.seat.Seat.depth.Goals as goal

pub returns : goal.returns
returns g c = refl
