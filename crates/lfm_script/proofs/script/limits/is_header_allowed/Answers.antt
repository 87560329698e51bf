use Rattle.std.proofs.Common.{rules}
use Rattle.lfm_script.proofs.script.limits.is_header_allowed.Goals as goal

pub returns-then-workers-le-MAX_WORKERS : goal.returns-then-workers-le-MAX_WORKERS
returns-then-workers-le-MAX_WORKERS c = search rules
