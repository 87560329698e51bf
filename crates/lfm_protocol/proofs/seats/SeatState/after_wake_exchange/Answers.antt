use Rattle.std.proofs.Common.{rules}
use Rattle.lfm_protocol.proofs.seats.SeatState.after_wake_exchange.Goals as goal

pub returns-in-SendWakeExchange-Waiting : goal.returns-in-SendWakeExchange-Waiting
returns-in-SendWakeExchange-Waiting c = search rules
