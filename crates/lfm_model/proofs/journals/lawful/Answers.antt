use Rattle.std.proofs.Common.{arith, rules}
use Rattle.std.proofs.lemmas.Grind.{common_steps}
use Rattle.lfm_model.proofs.JournalTurns.{op_turn}
use Rattle.lfm_model.proofs.journals.lawful.Goals as goal

pub loop-entry-preserved-in-Did : goal.loop-entry-preserved-in-Did
loop-entry-preserved-in-Did g c = (
  omega (arith, c.loop-entry.invariant.0),
  op_turn c.args.entries.now c.loop-entry.taker c.loop-entry.stamp _ c.entry-item.result _ c.loop-entry-test.true c.entry-item.is c.in-Did.is (search rules) c.loop-entry.invariant.1,
)

pub loop-entry-preserved : goal.loop-entry-preserved
loop-entry-preserved g c = grind (arith, common_steps)
