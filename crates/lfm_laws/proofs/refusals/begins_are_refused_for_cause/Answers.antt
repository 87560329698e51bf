use Rattle.lfm_laws.proofs.lawful.refusals.RefusedCalls.{begins_are_refused_for_cause}
use Rattle.lfm_laws.proofs.refusals.begins_are_refused_for_cause.Goals as goal

pub returns : goal.returns
returns c = begins_are_refused_for_cause
