use Rattle.lfm_laws.proofs.lawful.runs.InSchedules.{won_posts_have_a_record_in_schedules}
use Rattle.lfm_laws.proofs.lawful.states.WonPosts.{won_posts_have_a_record}
use Rattle.lfm_laws.proofs.handoffs.won_posts_have_a_record.Goals as goal

pub returns-clause-steady : goal.returns-clause-steady
returns-clause-steady c = won_posts_have_a_record

pub returns-clause-schedules : goal.returns-clause-schedules
returns-clause-schedules c = won_posts_have_a_record_in_schedules
