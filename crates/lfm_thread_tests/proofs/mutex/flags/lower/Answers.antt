use Rattle.std.proofs.Common.{false}
use Rattle.lfm_thread_tests.proofs.mutex.flags.lower.Goals as goal

pub returns : goal.returns
returns c = let h = rw c.in-Some.is at (c.value_mut.follows.holds false) in (cc, h.3)
