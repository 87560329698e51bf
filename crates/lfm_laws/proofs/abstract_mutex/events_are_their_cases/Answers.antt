use Rattle.lfm_laws.proofs.lawful.runs.InSchedules.{events_are_their_cases_in_schedules}
use Rattle.lfm_laws.proofs.lawful.runs.AbstractBridge.{events_are_their_cases}
use Rattle.lfm_laws.proofs.abstract_mutex.events_are_their_cases.Goals as goal

pub returns-clause-steady : goal.returns-clause-steady
returns-clause-steady c = events_are_their_cases

pub returns-clause-schedules : goal.returns-clause-schedules
returns-clause-schedules c = events_are_their_cases_in_schedules
