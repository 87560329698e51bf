use Rattle.lfm_laws.proofs.lawful.rounds.FairRounds.{queued_seats_are_served_in_fair_rounds}
use Rattle.lfm_laws.proofs.queue_order.queued_seats_are_served_in_fair_rounds.Goals as goal

pub returns : goal.returns
returns c = queued_seats_are_served_in_fair_rounds
