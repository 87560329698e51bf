use Rattle.std.proofs.Common.{rules}
use Rattle.lfm_protocol.proofs.seats.SeatState.after_count_exchange.Goals as goal

pub returns-in-TryCountExchange-clause-seat : goal.returns-in-TryCountExchange-clause-seat
returns-in-TryCountExchange-clause-seat c = search rules
