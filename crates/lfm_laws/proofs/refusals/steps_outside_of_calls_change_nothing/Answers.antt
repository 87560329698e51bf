use Rattle.lfm_laws.proofs.lawful.refusals.OutsideSteps.{steps_outside_of_calls_change_nothing, answered_outside, runs_stay_without_outside_steps}
use Rattle.lfm_laws.proofs.refusals.steps_outside_of_calls_change_nothing.Goals as goal

pub returns-clause-state : goal.returns-clause-state
returns-clause-state c = steps_outside_of_calls_change_nothing

pub returns-clause-answered : goal.returns-clause-answered
returns-clause-answered c = answered_outside

pub returns-clause-runs : goal.returns-clause-runs
returns-clause-runs c = runs_stay_without_outside_steps
