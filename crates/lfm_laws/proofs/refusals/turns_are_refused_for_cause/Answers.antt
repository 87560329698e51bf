use Rattle.lfm_laws.proofs.lawful.refusals.RefusedTurns.{turns_are_refused_for_cause}
use Rattle.lfm_laws.proofs.refusals.turns_are_refused_for_cause.Goals as goal

pub returns : goal.returns
returns c = turns_are_refused_for_cause
