use Rattle.lfm_laws.proofs.lawful.calls.CallsEnded.{calls_end_in_their_kind}
use Rattle.lfm_laws.proofs.calls.calls_end_in_their_kind.Goals as goal

pub returns : goal.returns
returns c = calls_end_in_their_kind
