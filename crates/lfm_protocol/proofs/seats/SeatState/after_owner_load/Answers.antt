use Rattle.std.proofs.Common.{rules}
use Rattle.lfm_protocol.proofs.seats.SeatState.after_owner_load.Goals as goal

pub returns-in-LockOwnerLoad-clause-seat : goal.returns-in-LockOwnerLoad-clause-seat
returns-in-LockOwnerLoad-clause-seat c = search rules
