use Rattle.std.proofs.Common.{refl}
use Rattle.lfm_protocol.proofs.seats.SeatState.deepen.Goals as goal

pub returns-clause-seat : goal.returns-clause-seat
returns-clause-seat c = refl
