use Rattle.std.proofs.Common.{rules}
use Rattle.lfm_protocol.proofs.seats.SeatState.begin_awake.Goals as goal

pub returns-in-SendLock-clause-seat : goal.returns-in-SendLock-clause-seat
returns-in-SendLock-clause-seat c = search rules

pub returns-in-TryLock-clause-turn : goal.returns-in-TryLock-clause-turn
returns-in-TryLock-clause-turn c = search rules
