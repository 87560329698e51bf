use Rattle.lfm_laws.proofs.lawful.runs.InSchedules.{places_are_read_in_schedules}
use Rattle.lfm_laws.proofs.lawful.states.CountLaws.{places_are_read}
use Rattle.lfm_laws.proofs.mutual_exclusion.places_are_read.Goals as goal

pub returns-clause-steady : goal.returns-clause-steady
returns-clause-steady c = places_are_read

pub returns-clause-schedules : goal.returns-clause-schedules
returns-clause-schedules c = places_are_read_in_schedules
