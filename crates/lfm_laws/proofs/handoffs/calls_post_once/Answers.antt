use Rattle.lfm_laws.proofs.lawful.runs.InSchedules.{calls_post_once_in_schedules}
use Rattle.lfm_laws.proofs.lawful.bounds.PostsOnce.{calls_post_once}
use Rattle.lfm_laws.proofs.handoffs.calls_post_once.Goals as goal

pub returns-clause-steady : goal.returns-clause-steady
returns-clause-steady c = calls_post_once

pub returns-clause-schedules : goal.returns-clause-schedules
returns-clause-schedules c = calls_post_once_in_schedules
