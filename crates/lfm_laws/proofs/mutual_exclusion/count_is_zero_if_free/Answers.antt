use Rattle.lfm_laws.proofs.lawful.runs.InSchedules.{count_is_zero_if_free_in_schedules}
use Rattle.lfm_laws.proofs.lawful.states.CountLaws.{count_is_zero_if_free}
use Rattle.lfm_laws.proofs.mutual_exclusion.count_is_zero_if_free.Goals as goal

pub returns-clause-steady : goal.returns-clause-steady
returns-clause-steady c = count_is_zero_if_free

pub returns-clause-schedules : goal.returns-clause-schedules
returns-clause-schedules c = count_is_zero_if_free_in_schedules
