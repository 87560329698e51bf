use Rattle.std.proofs.Common.{rules}
use Rattle.lfm_monitor.proofs.open.are_allowed.Goals as goal

pub returns-then-saturating_mul-le-MAX_ENTRIES : goal.returns-then-saturating_mul-le-MAX_ENTRIES
returns-then-saturating_mul-le-MAX_ENTRIES c = search rules
