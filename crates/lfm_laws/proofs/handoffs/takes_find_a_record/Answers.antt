use Rattle.lfm_laws.proofs.lawful.runs.InSchedules.{takes_find_a_record_in_schedules}
use Rattle.lfm_laws.proofs.lawful.states.StateLaws.{takes_find_a_record}
use Rattle.lfm_laws.proofs.handoffs.takes_find_a_record.Goals as goal

pub returns-clause-steady : goal.returns-clause-steady
returns-clause-steady c = takes_find_a_record

pub returns-clause-schedules : goal.returns-clause-schedules
returns-clause-schedules c = takes_find_a_record_in_schedules
