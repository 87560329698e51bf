use Rattle.lfm_mutex.proofs.EndedHolds.{one_last_value}
use Rattle.lfm_mutex.proofs.laws.closes_have_one_value.Goals as goal

pub returns : goal.returns
returns g c = one_last_value
