use Rattle.lfm_plain_condvar_laws.proofs.Ends.{waits_end_by_wakes_or_limits}
use Rattle.lfm_plain_condvar_laws.proofs.waits.waits_end_by_wakes_or_limits.Goals as goal

pub returns : goal.returns
returns c = waits_end_by_wakes_or_limits
