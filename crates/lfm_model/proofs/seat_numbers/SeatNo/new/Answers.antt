use Rattle.std.proofs.Common.{rules}
use Rattle.lfm_model.proofs.seat_numbers.SeatNo.new.Goals as goal

pub invariant_of-result : goal.invariant_of-result
invariant_of-result c = search rules

pub returns-then-number-le-MAX_SEAT_NO-clause-valid : goal.returns-then-number-le-MAX_SEAT_NO-clause-valid
returns-then-number-le-MAX_SEAT_NO-clause-valid c = search rules
