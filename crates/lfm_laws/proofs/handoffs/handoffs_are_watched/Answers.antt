use Rattle.lfm_laws.proofs.lawful.runs.InSchedules.{handoffs_are_watched_in_schedules}
use Rattle.lfm_laws.proofs.lawful.states.StateLaws.{handoffs_are_watched}
use Rattle.lfm_laws.proofs.handoffs.handoffs_are_watched.Goals as goal

pub returns-clause-steady : goal.returns-clause-steady
returns-clause-steady c = handoffs_are_watched

pub returns-clause-schedules : goal.returns-clause-schedules
returns-clause-schedules c = handoffs_are_watched_in_schedules
