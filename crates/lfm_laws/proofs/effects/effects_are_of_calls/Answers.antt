use Rattle.lfm_laws.proofs.lawful.runs.InSchedules.{effects_are_of_calls_in_schedules}
use Rattle.lfm_laws.proofs.lawful.calls.EffectsOwned.{effects_are_of_calls}
use Rattle.lfm_laws.proofs.effects.effects_are_of_calls.Goals as goal

pub returns-clause-steady : goal.returns-clause-steady
returns-clause-steady c = effects_are_of_calls

pub returns-clause-schedules : goal.returns-clause-schedules
returns-clause-schedules c = effects_are_of_calls_in_schedules
