use Rattle.std.proofs.Common.{rules}
use Rattle.lfm_words.proofs.handoffs.pack_handoff.Goals as goal

pub returns : goal.returns
returns c = search rules
