use Rattle.std.proofs.Common.{rules}
use Rattle.lfm_protocol.proofs.seats.SeatState.after_push_load.Goals as goal

pub returns-in-ReleasePushRecheck-clause-seat : goal.returns-in-ReleasePushRecheck-clause-seat
returns-in-ReleasePushRecheck-clause-seat c = search rules
