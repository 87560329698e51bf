use Rattle.lfm_laws.proofs.lawful.runs.InSchedules.{no_seat_overtakes_twice_in_schedules}
use Rattle.lfm_laws.proofs.lawful.bounds.Overtakers.{no_seat_overtakes_twice}
use Rattle.lfm_laws.proofs.queue_order.no_seat_overtakes_twice.Goals as goal

pub returns-clause-steady : goal.returns-clause-steady
returns-clause-steady c = no_seat_overtakes_twice

pub returns-clause-schedules : goal.returns-clause-schedules
returns-clause-schedules c = no_seat_overtakes_twice_in_schedules
