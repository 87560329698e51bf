use Rattle.std.proofs.Common.{rules}
use Rattle.lfm_protocol.proofs.seats.SeatState.after_wake_store.Goals as goal

pub returns-in-WaitWakeStore-clause-seat : goal.returns-in-WaitWakeStore-clause-seat
returns-in-WaitWakeStore-clause-seat c = search rules
