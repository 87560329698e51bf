use Rattle.lfm_laws.proofs.lawful.runs.LimitsKept.{limits_stay}
use Rattle.lfm_laws.proofs.ranges.limits_stay.Goals as goal

pub returns : goal.returns
returns c = limits_stay
