use Rattle.lfm_laws.proofs.lawful.runs.AbstractBridge.{runs_are_abstract_runs}
use Rattle.lfm_laws.proofs.abstract_mutex.runs_are_abstract_runs.Goals as goal

pub returns : goal.returns
returns c = runs_are_abstract_runs
