use Rattle.lfm_laws.proofs.lawful.touched.OneSeat.{steps_touch_one_word_and_one_seat, steps_see_one_word_and_one_seat}
use Rattle.lfm_laws.proofs.steadiness.steps_touch_one_word_and_one_seat.Goals as goal

pub returns-clause-touches : goal.returns-clause-touches
returns-clause-touches c = steps_touch_one_word_and_one_seat

pub returns-clause-sees : goal.returns-clause-sees
returns-clause-sees c = steps_see_one_word_and_one_seat
