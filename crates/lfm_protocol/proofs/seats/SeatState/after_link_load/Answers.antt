use Rattle.std.proofs.Common.{rules}
use Rattle.lfm_protocol.proofs.seats.SeatState.after_link_load.Goals as goal

pub returns-in-TakeLinkLoad-clause-seat : goal.returns-in-TakeLinkLoad-clause-seat
returns-in-TakeLinkLoad-clause-seat c = search rules
