use Rattle.lfm_laws.proofs.lawful.runs.InSchedules.{tries_alone_hold_in_schedules}
use Rattle.lfm_laws.proofs.lawful.bounds.TriesAlone.{tries_alone_hold}
use Rattle.lfm_laws.proofs.bounds.tries_alone_hold.Goals as goal

pub returns-clause-steady : goal.returns-clause-steady
returns-clause-steady c = tries_alone_hold

pub returns-clause-schedules : goal.returns-clause-schedules
returns-clause-schedules c = tries_alone_hold_in_schedules
