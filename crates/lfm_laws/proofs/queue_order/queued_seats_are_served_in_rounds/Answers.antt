use Rattle.lfm_laws.proofs.lawful.rounds.Runs.{queued_seats_are_served_in_rounds}
use Rattle.lfm_laws.proofs.queue_order.queued_seats_are_served_in_rounds.Goals as goal

pub returns : goal.returns
returns c = queued_seats_are_served_in_rounds
