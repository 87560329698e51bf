use Rattle.lfm_laws.proofs.lawful.runs.InSchedules.{stamps_are_consecutive_in_schedules}
use Rattle.lfm_laws.proofs.lawful.runs.PushOrder.{stamps_are_consecutive}
use Rattle.lfm_laws.proofs.queue_order.stamps_are_consecutive.Goals as goal

pub returns-clause-steady : goal.returns-clause-steady
returns-clause-steady c = stamps_are_consecutive

pub returns-clause-schedules : goal.returns-clause-schedules
returns-clause-schedules c = stamps_are_consecutive_in_schedules
