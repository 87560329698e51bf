use Rattle.lfm_pool.specs.Tables.{part}
use Rattle.lfm_pool.specs.Steps.{state_in, hand_out, slots_out}
use Rattle.lfm_pool.proofs.handoff.handoff_exchange.Given as goal

abbrev pub ghosts-exchange_at : goal.ghosts-exchange_at
ghosts-exchange_at a = record {
  mutex = a.mutex;
  number = a.seat.now.number;
  expected = a.post;
  state = state_in a.seat.now.place.me.0 a.mutex;
  hand = hand_out a.pool.now.limits.seats (state_in a.seat.now.place.me.0 a.mutex) (part a.seat.now.place.me.0 a.mutex);
  slots = slots_out a.pool.now.limits.seats (state_in a.seat.now.place.me.0 a.mutex) (part a.seat.now.place.me.0 a.mutex);
}
