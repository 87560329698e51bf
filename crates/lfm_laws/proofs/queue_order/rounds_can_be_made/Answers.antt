use Rattle.lfm_laws.proofs.lawful.rounds.Made.{fair_rounds_can_be_made, full_rounds_can_be_made, rounds_can_be_made}
use Rattle.lfm_laws.proofs.queue_order.rounds_can_be_made.Goals as goal

pub returns-clause-rounds : goal.returns-clause-rounds
returns-clause-rounds c = rounds_can_be_made

pub returns-clause-fair : goal.returns-clause-fair
returns-clause-fair c = fair_rounds_can_be_made

pub returns-clause-full : goal.returns-clause-full
returns-clause-full c = full_rounds_can_be_made
