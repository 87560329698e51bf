use Rattle.std.proofs.Common.{rules}
use Rattle.lfm_protocol.proofs.seats.SeatState.after_owner_store.Goals as goal

pub returns-in-EnterOwnerStore-clause-seat : goal.returns-in-EnterOwnerStore-clause-seat
returns-in-EnterOwnerStore-clause-seat c = search rules
