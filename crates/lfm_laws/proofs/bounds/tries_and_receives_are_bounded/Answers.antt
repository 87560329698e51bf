use Rattle.lfm_laws.proofs.lawful.runs.InSchedules.{tries_and_receives_are_bounded_in_schedules}
use Rattle.lfm_laws.proofs.lawful.bounds.ConstantBounds.{receives_are_bounded, tries_are_bounded}
use Rattle.lfm_laws.proofs.bounds.tries_and_receives_are_bounded.Goals as goal

pub returns-clause-tries : goal.returns-clause-tries
returns-clause-tries c = tries_are_bounded

pub returns-clause-receives : goal.returns-clause-receives
returns-clause-receives c = receives_are_bounded

pub returns-clause-schedules : goal.returns-clause-schedules
returns-clause-schedules c = tries_and_receives_are_bounded_in_schedules
