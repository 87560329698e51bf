use Rattle.std.proofs.Common.{rules}
use Rattle.lfm_protocol.proofs.seats.SeatState.stored_handoff.Goals as goal

pub returns-in-ReleaseHandoffStore : goal.returns-in-ReleaseHandoffStore
returns-in-ReleaseHandoffStore c = search rules
