use Rattle.std.proofs.Common.{rules}
use Rattle.lfm_protocol.proofs.seats.SeatState.drops_oldest.Goals as goal

pub returns-in_default-3 : goal.returns-in_default-3
returns-in_default-3 c = search rules
