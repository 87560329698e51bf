use Rattle.std.proofs.Common.{arith}
use Rattle.lfm_text.proofs.Writes.{part_three, part_four}
use Rattle.lfm_shown.proofs.events.write_change.Goals as goal

pub returns-in_err-write_text-2 : goal.returns-in_err-write_text-2
returns-in_err-write_text-2 g c = grind (arith, part_three)

pub returns-in_err-write_number-2 : goal.returns-in_err-write_number-2
returns-in_err-write_number-2 g c = grind (arith, part_four)
