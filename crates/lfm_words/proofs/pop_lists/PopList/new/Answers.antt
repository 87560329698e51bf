use Rattle.std.proofs.Common.{rules}
use Rattle.lfm_words.proofs.pop_lists.PopList.new.Goals as goal

pub invariant_of-result : goal.invariant_of-result
invariant_of-result c = search rules
