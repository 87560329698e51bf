use Rattle.lfm_laws.proofs.lawful.runs.InSchedules.{pushes_alone_fail_once_in_schedules}
use Rattle.lfm_laws.proofs.lawful.bounds.PushesAlone.{pushes_alone_fail_once}
use Rattle.lfm_laws.proofs.bounds.pushes_alone_fail_once.Goals as goal

pub returns-clause-steady : goal.returns-clause-steady
returns-clause-steady c = pushes_alone_fail_once

pub returns-clause-schedules : goal.returns-clause-schedules
returns-clause-schedules c = pushes_alone_fail_once_in_schedules
