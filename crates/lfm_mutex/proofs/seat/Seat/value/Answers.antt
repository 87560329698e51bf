use Rattle.std.proofs.Common.{rules}
use Rattle.lfm_mutex.proofs.seat.Seat.value.Goals as goal

pub returns-in-Some : goal.returns-in-Some
returns-in-Some g c = search rules
