use Rattle.lfm_laws.proofs.lawful.runs.InSchedules.{queue_is_in_push_order_in_schedules}
use Rattle.lfm_laws.proofs.lawful.runs.PushOrder.{queue_is_in_push_order}
use Rattle.lfm_laws.proofs.queue_order.queue_is_in_push_order.Goals as goal

pub returns-clause-steady : goal.returns-clause-steady
returns-clause-steady c = queue_is_in_push_order

pub returns-clause-schedules : goal.returns-clause-schedules
returns-clause-schedules c = queue_is_in_push_order_in_schedules
