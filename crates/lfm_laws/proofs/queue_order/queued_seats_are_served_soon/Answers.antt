use Rattle.lfm_laws.proofs.lawful.runs.InSchedules.{queued_seats_are_served_soon_in_schedules}
use Rattle.lfm_laws.proofs.lawful.bounds.Served.{queued_seats_are_served_soon}
use Rattle.lfm_laws.proofs.queue_order.queued_seats_are_served_soon.Goals as goal

pub returns-clause-steady : goal.returns-clause-steady
returns-clause-steady c = queued_seats_are_served_soon

pub returns-clause-schedules : goal.returns-clause-schedules
returns-clause-schedules c = queued_seats_are_served_soon_in_schedules
