use Rattle.lfm_laws.proofs.lawful.runs.InSchedules.{steps_serve_in_schedules}
use Rattle.lfm_laws.proofs.lawful.bounds.Served.{steps_serve}
use Rattle.lfm_laws.proofs.queue_order.steps_serve.Goals as goal

pub returns-clause-steady : goal.returns-clause-steady
returns-clause-steady c = steps_serve

pub returns-clause-schedules : goal.returns-clause-schedules
returns-clause-schedules c = steps_serve_in_schedules
