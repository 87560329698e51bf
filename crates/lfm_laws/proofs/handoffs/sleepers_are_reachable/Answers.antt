use Rattle.lfm_laws.proofs.lawful.runs.InSchedules.{sleepers_are_reachable_in_schedules}
use Rattle.lfm_laws.proofs.lawful.states.Sleepers.{sleepers_are_reachable}
use Rattle.lfm_laws.proofs.handoffs.sleepers_are_reachable.Goals as goal

pub returns-clause-steady : goal.returns-clause-steady
returns-clause-steady c = sleepers_are_reachable

pub returns-clause-schedules : goal.returns-clause-schedules
returns-clause-schedules c = sleepers_are_reachable_in_schedules
