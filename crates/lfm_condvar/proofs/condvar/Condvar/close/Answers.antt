use Rattle.lfm_condvar.specs.Belongs.{cond_sight}
use Rattle.lfm_condvar.proofs.Followed.{since_reached}
use Rattle.std.proofs.Common.{rules}
use Rattle.lfm_condvar.proofs.condvar.Condvar.close.Goals as goal

pub returns-in-Ok-clause-numbers : goal.returns-in-Ok-clause-numbers
returns-in-Ok-clause-numbers c = (c.in-Ok.waiters, c.numbers.ensures.0, c.numbers.ensures.1, (λ j s l at is. since_reached (cond_sight s).seats (cond_sight s).number l c.in-Ok.waiters (c.in-Ok.ensures.reached j s l at is)), c.in-Ok.ensures.last, c.in-Ok.ensures.latest)

pub returns-in-Err-clause-missing : goal.returns-in-Err-clause-missing
returns-in-Err-clause-missing c = search rules
