use Rattle.lfm_laws.proofs.lawful.runs.InSchedules.{somebody_can_serve_in_schedules}
use Rattle.lfm_laws.proofs.lawful.bounds.CanServe.{somebody_can_serve}
use Rattle.lfm_laws.proofs.queue_order.somebody_can_serve.Goals as goal

pub returns-clause-steady : goal.returns-clause-steady
returns-clause-steady c = somebody_can_serve

pub returns-clause-schedules : goal.returns-clause-schedules
returns-clause-schedules c = somebody_can_serve_in_schedules
