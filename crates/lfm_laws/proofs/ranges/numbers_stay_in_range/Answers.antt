use Rattle.lfm_laws.proofs.lawful.states.RangesRead.{numbers_stay_in_range}
use Rattle.lfm_laws.proofs.ranges.numbers_stay_in_range.Goals as goal

pub returns : goal.returns
returns c = numbers_stay_in_range
