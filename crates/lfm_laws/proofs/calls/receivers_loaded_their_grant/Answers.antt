use Rattle.lfm_laws.proofs.lawful.calls.ReceivesTold.{receivers_loaded_their_grant}
use Rattle.lfm_laws.proofs.calls.receivers_loaded_their_grant.Goals as goal

pub returns : goal.returns
returns c = receivers_loaded_their_grant
