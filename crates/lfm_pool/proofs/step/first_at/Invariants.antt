use Rattle.lfm_pool.specs.Tables.{part}
use Rattle.lfm_pool.specs.Steps.{begun_at, call_of, hand_out, slots_out}
use Rattle.lfm_pool.proofs.step.first_at.Given as goal

abbrev pub ghosts-step_at : goal.ghosts-step_at
ghosts-step_at g a = record {
  mutex = a.mutex;
  number = 0;
  expected = 0;
  state = begun_at a.seat.now.place.me.0 a.mutex g.C.OneCall.depth a.pool.now.limits (call_of a.access.access);
  hand = hand_out a.pool.now.limits.seats (begun_at a.seat.now.place.me.0 a.mutex g.C.OneCall.depth a.pool.now.limits (call_of a.access.access)) (part a.seat.now.place.me.0 a.mutex);
  slots = slots_out a.pool.now.limits.seats (begun_at a.seat.now.place.me.0 a.mutex g.C.OneCall.depth a.pool.now.limits (call_of a.access.access)) (part a.seat.now.place.me.0 a.mutex);
}
