use Rattle.lfm_laws.proofs.lawful.runs.InSchedules.{one_seat_owns_in_schedules}
use Rattle.lfm_laws.proofs.lawful.states.Owning.{one_seat_owns}
use Rattle.lfm_laws.proofs.mutual_exclusion.one_seat_owns.Goals as goal

pub returns-clause-steady : goal.returns-clause-steady
returns-clause-steady c = one_seat_owns

pub returns-clause-schedules : goal.returns-clause-schedules
returns-clause-schedules c = one_seat_owns_in_schedules
