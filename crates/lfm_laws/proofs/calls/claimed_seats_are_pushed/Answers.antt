use Rattle.lfm_laws.proofs.lawful.runs.InSchedules.{claimed_seats_are_queued_in_schedules}
use Rattle.lfm_laws.proofs.lawful.calls.ClaimedSeats.{claimed_seats_are_pushed, claimed_seats_are_queued}
use Rattle.lfm_laws.proofs.calls.claimed_seats_are_pushed.Goals as goal

pub returns-clause-pushed : goal.returns-clause-pushed
returns-clause-pushed c = claimed_seats_are_pushed

pub returns-clause-steady : goal.returns-clause-steady
returns-clause-steady c = claimed_seats_are_queued

pub returns-clause-schedules : goal.returns-clause-schedules
returns-clause-schedules c = claimed_seats_are_queued_in_schedules
