use Rattle.lfm_laws.proofs.lawful.runs.InSchedules.{effects_are_the_callers_in_schedules}
use Rattle.lfm_laws.proofs.lawful.calls.EffectsOwned.{effects_are_the_callers}
use Rattle.lfm_laws.proofs.effects.effects_are_the_callers.Goals as goal

pub returns-clause-steady : goal.returns-clause-steady
returns-clause-steady c = effects_are_the_callers

pub returns-clause-schedules : goal.returns-clause-schedules
returns-clause-schedules c = effects_are_the_callers_in_schedules
