use Rattle.lfm_laws.proofs.lawful.runs.InSchedules.{quiescent_states_rest_in_schedules}
use Rattle.lfm_laws.proofs.lawful.states.StateLaws.{quiescent_states_rest}
use Rattle.lfm_laws.proofs.handoffs.quiescent_states_rest.Goals as goal

pub returns-clause-steady : goal.returns-clause-steady
returns-clause-steady c = quiescent_states_rest

pub returns-clause-schedules : goal.returns-clause-schedules
returns-clause-schedules c = quiescent_states_rest_in_schedules
