use Rattle.lfm_laws.proofs.lawful.rounds.FullRounds.{queued_seats_are_served_whatever_owners_begin}
use Rattle.lfm_laws.proofs.queue_order.queued_seats_are_served_whatever_owners_begin.Goals as goal

pub returns : goal.returns
returns c = queued_seats_are_served_whatever_owners_begin
