use Rattle.std.proofs.Common.{rules}
use Rattle.lfm_condvar.proofs.cond_seat.hold.leave_list.Goals as goal

pub returns-clause-steps : goal.returns-clause-steps
returns-clause-steps c = search rules
