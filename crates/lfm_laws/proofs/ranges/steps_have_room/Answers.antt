use Rattle.lfm_laws.proofs.lawful.states.RangesRead.{steps_have_room}
use Rattle.lfm_laws.proofs.ranges.steps_have_room.Goals as goal

pub returns : goal.returns
returns c = steps_have_room
