use Rattle.std.proofs.Common.{rules}
use Rattle.lfm_text.proofs.limits.is_past_limit.Goals as goal

pub returns-else-text-gt-MAX_BYTES : goal.returns-else-text-gt-MAX_BYTES
returns-else-text-gt-MAX_BYTES c = search rules
