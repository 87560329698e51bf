use Rattle.std.proofs.Common.{rules}
use Rattle.lfm_protocol.proofs.seats.SeatState.exchanged_push.Goals as goal

pub returns-in-PushExchange : goal.returns-in-PushExchange
returns-in-PushExchange c = search rules
