use Rattle.std.proofs.Common.{rules}
use Rattle.lfm_protocol.proofs.seats.SeatState.after_wake_load.Goals as goal

pub returns-in-ReceiveWakeLoad-default-clause-seat : goal.returns-in-ReceiveWakeLoad-default-clause-seat
returns-in-ReceiveWakeLoad-default-clause-seat c = search rules
