use Rattle.std.proofs.Common.{length}
use Rattle.lfm_mutex.proofs.ends.Ends.{was_last, was_there}
use Rattle.lfm_plain_test_tools.proofs.hands.last_seats.Goals as goal

pub returns : goal.returns
returns c = let a = c.in_ok-third.ensures.items in let b = c.in_ok-second.ensures.items in let d = c.in_ok-first.ensures.items in let t = c.in_ok-third.third in let s = c.in_ok-second.second in let f = c.in_ok-first.first in let n = length c.pop-3.new.self.items in
    (c.requires n f (was_there _ _ t f n a (was_there _ _ s f n b (was_last _ _ f d))), c.requires (length c.pop-2.new.self.items) s (was_there _ _ t s (length c.pop-2.new.self.items) a (was_last _ _ s b)), c.requires (length c.pop.new.self.items) t (was_last _ _ t a))
