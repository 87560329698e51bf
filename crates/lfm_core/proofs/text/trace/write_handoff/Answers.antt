use Rattle.std.proofs.Common.{arith}
use Rattle.lfm_text.proofs.Writes.{part_two, part_three}
use Rattle.lfm_core.proofs.text.trace.write_handoff.Goals as goal

pub returns-in_err-write_text : goal.returns-in_err-write_text
returns-in_err-write_text g c = grind (arith, part_two)

pub returns-in_err-write_number-2 : goal.returns-in_err-write_number-2
returns-in_err-write_number-2 g c = grind (arith, part_three)
