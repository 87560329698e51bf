use Rattle.std.proofs.Common.{rules}
use Rattle.lfm_words.proofs.wakes.Wake.is_word.Goals as goal

pub returns-else-word-lt-FIRST_GRANT : goal.returns-else-word-lt-FIRST_GRANT
returns-else-word-lt-FIRST_GRANT c = search rules
