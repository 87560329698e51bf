use Rattle.lfm_laws.proofs.lawful.runs.KeptSteady.{states_are_steady}
use Rattle.lfm_laws.proofs.steadiness.states_are_steady.Goals as goal

pub returns : goal.returns
returns c = states_are_steady
