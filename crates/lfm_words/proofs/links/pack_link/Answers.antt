use Rattle.std.proofs.Common.{rules}
use Rattle.lfm_words.proofs.links.pack_link.Goals as goal

pub returns : goal.returns
returns c = search rules
