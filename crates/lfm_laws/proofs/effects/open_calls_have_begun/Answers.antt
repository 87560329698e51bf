use Rattle.lfm_laws.proofs.lawful.calls.OpenCalls.{open_calls_have_begun}
use Rattle.lfm_laws.proofs.effects.open_calls_have_begun.Goals as goal

pub returns : goal.returns
returns c = open_calls_have_begun
