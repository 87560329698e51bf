use Rattle.lfm_laws.proofs.lawful.touched.OneSeat.{begins_touch_one_seat}
use Rattle.lfm_laws.proofs.steadiness.begins_touch_one_seat.Goals as goal

pub returns : goal.returns
returns c = begins_touch_one_seat
