use Rattle.lfm_laws.proofs.lawful.runs.KeptSteady.{steps_keep_steady}
use Rattle.lfm_laws.proofs.steadiness.steps_keep_steady.Goals as goal

pub returns : goal.returns
returns c = steps_keep_steady
