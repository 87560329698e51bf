use Rattle.std.proofs.Common.{arith}
use Rattle.std.proofs.lemmas.Grind.{common_steps}
use Rattle.lfm_words.proofs.pop_lists.PopList.add_older.Goals as goal

pub returns-clause-records : goal.returns-clause-records
returns-clause-records c = grind (arith, common_steps)
