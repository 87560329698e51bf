use Rattle.std.proofs.Common.{rules}
use Rattle.lfm_words.proofs.wakes.Wake.to_word.Goals as goal

pub returns-in-Grant : goal.returns-in-Grant
returns-in-Grant c = search rules
