use Rattle.lfm_laws.proofs.lawful.refusals.RefusedSteps.{steps_are_refused_for_cause}
use Rattle.lfm_laws.proofs.refusals.steps_are_refused_for_cause.Goals as goal

pub returns : goal.returns
returns c = steps_are_refused_for_cause
