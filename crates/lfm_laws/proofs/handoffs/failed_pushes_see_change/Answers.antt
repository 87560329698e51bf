use Rattle.lfm_laws.proofs.lawful.runs.InSchedules.{failed_pushes_see_change_in_schedules}
use Rattle.lfm_laws.proofs.lawful.states.StateLaws.{failed_pushes_see_change}
use Rattle.lfm_laws.proofs.handoffs.failed_pushes_see_change.Goals as goal

pub returns-clause-steady : goal.returns-clause-steady
returns-clause-steady c = failed_pushes_see_change

pub returns-clause-schedules : goal.returns-clause-schedules
returns-clause-schedules c = failed_pushes_see_change_in_schedules
