use Rattle.lfm_laws.proofs.lawful.states.RangesRead.{steps_have_room_in_limits}
use Rattle.lfm_laws.proofs.ranges.steps_have_room_in_limits.Goals as goal

pub returns : goal.returns
returns c = steps_have_room_in_limits
