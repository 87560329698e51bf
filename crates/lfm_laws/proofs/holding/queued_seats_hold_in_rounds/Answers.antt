use Rattle.lfm_laws.proofs.lawful.rounds.HoldingInRounds.{granted_seats_hold_in_rounds, queued_seats_hold_in_rounds}
use Rattle.lfm_laws.proofs.holding.queued_seats_hold_in_rounds.Goals as goal

pub returns-clause-granted : goal.returns-clause-granted
returns-clause-granted c = granted_seats_hold_in_rounds

pub returns-clause-queued : goal.returns-clause-queued
returns-clause-queued c = queued_seats_hold_in_rounds
