use Rattle.lfm_laws.proofs.lawful.calls.WaitsTold.{waits_answer_their_release}
use Rattle.lfm_laws.proofs.calls.waits_answer_their_release.Goals as goal

pub returns : goal.returns
returns c = waits_answer_their_release
