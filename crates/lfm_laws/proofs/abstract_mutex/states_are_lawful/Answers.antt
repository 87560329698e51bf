use Rattle.lfm_laws.proofs.lawful.runs.InSchedules.{states_are_lawful_in_schedules}
use Rattle.lfm_laws.proofs.lawful.states.StateLaws.{states_are_lawful}
use Rattle.lfm_laws.proofs.abstract_mutex.states_are_lawful.Goals as goal

pub returns-clause-steady : goal.returns-clause-steady
returns-clause-steady c = states_are_lawful

pub returns-clause-schedules : goal.returns-clause-schedules
returns-clause-schedules c = states_are_lawful_in_schedules
