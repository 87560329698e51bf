use Rattle.std.proofs.Common.{rules}
use Rattle.lfm_protocol.proofs.seats.SeatState.begin_entry.Goals as goal

pub returns-else-self-eq0-clause-seat : goal.returns-else-self-eq0-clause-seat
returns-else-self-eq0-clause-seat c = search rules
