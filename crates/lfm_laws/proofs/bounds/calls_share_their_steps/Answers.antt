use Rattle.lfm_laws.proofs.lawful.runs.InSchedules.{calls_share_their_steps_in_schedules}
use Rattle.lfm_laws.proofs.lawful.bounds.LockFree.{calls_share_their_steps}
use Rattle.lfm_laws.proofs.bounds.calls_share_their_steps.Goals as goal

pub returns-clause-steady : goal.returns-clause-steady
returns-clause-steady c = calls_share_their_steps

pub returns-clause-schedules : goal.returns-clause-schedules
returns-clause-schedules c = calls_share_their_steps_in_schedules
