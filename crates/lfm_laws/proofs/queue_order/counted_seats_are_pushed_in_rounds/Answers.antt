use Rattle.lfm_laws.proofs.lawful.rounds.BeforePush.{counted_seats_are_pushed_in_rounds, counted_seats_are_pushed_within_budgets}
use Rattle.lfm_laws.proofs.queue_order.counted_seats_are_pushed_in_rounds.Goals as goal

pub returns-clause-rounds : goal.returns-clause-rounds
returns-clause-rounds c = counted_seats_are_pushed_in_rounds

pub returns-clause-budgets : goal.returns-clause-budgets
returns-clause-budgets c = counted_seats_are_pushed_within_budgets
