use Rattle.std.proofs.Common.{rules}
use Rattle.lfm_protocol.proofs.seats.SeatState.after_handoff_store.Goals as goal

pub returns-in-ReleaseHandoffStore-clause-seat : goal.returns-in-ReleaseHandoffStore-clause-seat
returns-in-ReleaseHandoffStore-clause-seat c = search rules
