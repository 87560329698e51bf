use Rattle.lfm_laws.proofs.lawful.runs.InSchedules.{calls_end_beside_others_in_schedules}
use Rattle.lfm_laws.proofs.lawful.bounds.Beside.{calls_end_beside_others}
use Rattle.lfm_laws.proofs.bounds.calls_end_beside_others.Goals as goal

pub returns-clause-steady : goal.returns-clause-steady
returns-clause-steady c = calls_end_beside_others

pub returns-clause-schedules : goal.returns-clause-schedules
returns-clause-schedules c = calls_end_beside_others_in_schedules
