use Rattle.lfm_laws.proofs.lawful.runs.InSchedules.{calls_change_the_push_word_twice_in_schedules}
use Rattle.lfm_laws.proofs.lawful.bounds.Beside.{calls_change_the_push_word_twice}
use Rattle.lfm_laws.proofs.bounds.calls_change_the_push_word_twice.Goals as goal

pub returns-clause-steady : goal.returns-clause-steady
returns-clause-steady c = calls_change_the_push_word_twice

pub returns-clause-schedules : goal.returns-clause-schedules
returns-clause-schedules c = calls_change_the_push_word_twice_in_schedules
