use Rattle.lfm_laws.proofs.lawful.runs.InSchedules.{some_call_ends_in_schedules}
use Rattle.lfm_laws.proofs.lawful.bounds.LockFree.{some_call_ends}
use Rattle.lfm_laws.proofs.bounds.some_call_ends.Goals as goal

pub returns-clause-steady : goal.returns-clause-steady
returns-clause-steady c = some_call_ends

pub returns-clause-schedules : goal.returns-clause-schedules
returns-clause-schedules c = some_call_ends_in_schedules
