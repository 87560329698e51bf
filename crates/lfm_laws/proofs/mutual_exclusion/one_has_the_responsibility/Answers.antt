use Rattle.lfm_laws.proofs.lawful.runs.InSchedules.{one_has_the_responsibility_in_schedules}
use Rattle.lfm_laws.proofs.lawful.states.Owning.{one_has_the_responsibility}
use Rattle.lfm_laws.proofs.mutual_exclusion.one_has_the_responsibility.Goals as goal

pub returns-clause-steady : goal.returns-clause-steady
returns-clause-steady c = one_has_the_responsibility

pub returns-clause-schedules : goal.returns-clause-schedules
returns-clause-schedules c = one_has_the_responsibility_in_schedules
