use Rattle.lfm_laws.proofs.lawful.runs.InSchedules.{calls_end_alone_in_schedules}
use Rattle.lfm_laws.proofs.lawful.bounds.CallsEnd.{calls_end_alone}
use Rattle.lfm_laws.proofs.bounds.calls_end_alone.Goals as goal

pub returns-clause-steady : goal.returns-clause-steady
returns-clause-steady c = calls_end_alone

pub returns-clause-schedules : goal.returns-clause-schedules
returns-clause-schedules c = calls_end_alone_in_schedules
