use Rattle.std.proofs.Common.{rules}
use Rattle.lfm_protocol.proofs.limits.Limits.are_allowed.Goals as goal

pub returns-then-self-ge1-2 : goal.returns-then-self-ge1-2
returns-then-self-ge1-2 c = search rules
