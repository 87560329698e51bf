use Rattle.std.proofs.Common.{rules}
use Rattle.lfm_protocol.proofs.seats.SeatState.after_push_exchange.Goals as goal

pub returns-then-eq-clause-seat : goal.returns-then-eq-clause-seat
returns-then-eq-clause-seat c = search rules
