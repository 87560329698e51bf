use Rattle.lfm_laws.proofs.lawful.runs.InSchedules.{busy_was_busy_in_schedules}
use Rattle.lfm_laws.proofs.lawful.refusals.BusyMoments.{busy_was_busy}
use Rattle.lfm_laws.proofs.refusals.busy_was_busy.Goals as goal

pub returns-clause-steady : goal.returns-clause-steady
returns-clause-steady c = busy_was_busy

pub returns-clause-schedules : goal.returns-clause-schedules
returns-clause-schedules c = busy_was_busy_in_schedules
