use Rattle.std.proofs.Common.{rules}
use Rattle.lfm_explain.proofs.driving.follow.Goals as goal

pub returns-then-line-eq0-clause-missing : goal.returns-then-line-eq0-clause-missing
returns-then-line-eq0-clause-missing c = search rules
