use Rattle.std.proofs.Common.{length}
use Rattle.lfm_mutex.proofs.ends.Ends.{was_last, was_there}
use Rattle.lfm_pool_tests.proofs.two_seats.two_seats.Goals as goal

pub returns : goal.returns
returns c = let a = c.in_ok-second.ensures.items in let b = c.in_ok-first.ensures.items in let s = c.in_ok-second.second in let f = c.in_ok-first.first in
    (c.requires (length c.pop-2.new.self.items) f (was_there _ _ s f (length c.pop-2.new.self.items) a (was_last _ _ f b)), c.requires (length c.pop.new.self.items) s (was_last _ _ s a))
