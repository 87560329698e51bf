use Rattle.std.proofs.Common.{rules}
use Rattle.lfm_model.proofs.seat_numbers.SeatNo.get.Goals as goal

pub returns-clause-value : goal.returns-clause-value
returns-clause-value c = search rules

pub returns-clause-above : goal.returns-clause-above
returns-clause-above c = search rules
