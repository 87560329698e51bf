use Rattle.std.proofs.Common.{rules}
use Rattle.lfm_protocol.proofs.seats.SeatState.charge.Goals as goal

pub returns-clause-seat : goal.returns-clause-seat
returns-clause-seat c = search rules
