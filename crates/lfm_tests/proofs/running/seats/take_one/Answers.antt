use Rattle.std.proofs.Common.{length}
use Rattle.lfm_mutex.proofs.ends.Ends.{was_last}
use Rattle.lfm_tests.proofs.running.seats.take_one.Goals as goal

pub returns : goal.returns
returns c = let a = c.in_ok-seat.ensures.items in let s = c.in_ok-seat.seat in c.requires (length c.pop.new.self.items) s (was_last _ _ s a)
