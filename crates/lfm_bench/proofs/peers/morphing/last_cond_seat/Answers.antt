use Rattle.std.proofs.Common.{length}
use Rattle.lfm_mutex.proofs.ends.Ends.{was_last, was_there}
use Rattle.lfm_bench.proofs.peers.morphing.last_cond_seat.Goals as goal

pub returns-clause-one : goal.returns-clause-one
returns-clause-one c = c.requires (length c.pop.new.self.items) c.in_ok-seat.seat (was_last _ _ c.in_ok-seat.seat c.in_ok-seat.ensures.items)

pub returns-clause-rest : goal.returns-clause-rest
returns-clause-rest c = λ j s at. c.requires j s (was_there _ _ c.in_ok-seat.seat s j c.in_ok-seat.ensures.items at)
