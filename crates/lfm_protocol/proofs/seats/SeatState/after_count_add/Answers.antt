use Rattle.std.proofs.Common.{rules}
use Rattle.lfm_protocol.proofs.seats.SeatState.after_count_add.Goals as goal

pub returns-in-LockCountAdd-clause-seat : goal.returns-in-LockCountAdd-clause-seat
returns-in-LockCountAdd-clause-seat c = search rules
