use Rattle.lfm_laws.proofs.lawful.calls.ReleasesTold.{releases_answer_what_they_did}
use Rattle.lfm_laws.proofs.calls.releases_answer_what_they_did.Goals as goal

pub returns : goal.returns
returns c = releases_answer_what_they_did
