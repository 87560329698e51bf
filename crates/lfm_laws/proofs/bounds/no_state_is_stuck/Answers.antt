use Rattle.lfm_laws.proofs.lawful.runs.InSchedules.{no_state_is_stuck_in_schedules}
use Rattle.lfm_laws.proofs.lawful.bounds.Resting.{no_state_is_stuck}
use Rattle.lfm_laws.proofs.bounds.no_state_is_stuck.Goals as goal

pub returns-clause-steady : goal.returns-clause-steady
returns-clause-steady c = no_state_is_stuck

pub returns-clause-schedules : goal.returns-clause-schedules
returns-clause-schedules c = no_state_is_stuck_in_schedules
