use Rattle.std.proofs.Common.{arith}
use Rattle.lfm_core.proofs.texts.Queued.{length-decimal}
use Rattle.lfm_core.proofs.text.trace.put_number.Goals as goal

pub write_digits-requires : goal.write_digits-requires
write_digits-requires c = omega (arith, length-decimal c.args.number c.ranges.number.fits)

pub returns-clause-start : goal.returns-clause-start
returns-clause-start c = omega (arith, length-decimal c.args.number c.ranges.number.fits, c.write_digits.ensures.start)
