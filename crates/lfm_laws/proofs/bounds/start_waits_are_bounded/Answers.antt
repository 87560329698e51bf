use Rattle.lfm_laws.proofs.lawful.runs.InSchedules.{start_waits_are_bounded_in_schedules}
use Rattle.lfm_laws.proofs.lawful.bounds.ReleaseBounds.{start_waits_are_bounded}
use Rattle.lfm_laws.proofs.bounds.start_waits_are_bounded.Goals as goal

pub returns-clause-steady : goal.returns-clause-steady
returns-clause-steady c = start_waits_are_bounded

pub returns-clause-schedules : goal.returns-clause-schedules
returns-clause-schedules c = start_waits_are_bounded_in_schedules
