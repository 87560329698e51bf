use Rattle.lfm_laws.proofs.lawful.runs.InSchedules.{calls_take_effect_once_in_schedules}
use Rattle.lfm_laws.proofs.lawful.calls.EffectsOnce.{calls_take_effect_once}
use Rattle.lfm_laws.proofs.effects.calls_take_effect_once.Goals as goal

pub returns-clause-steady : goal.returns-clause-steady
returns-clause-steady c = calls_take_effect_once

pub returns-clause-schedules : goal.returns-clause-schedules
returns-clause-schedules c = calls_take_effect_once_in_schedules
