use Rattle.std.proofs.Common.{arith}
use Rattle.lfm_plain_condvar.proofs.close.last_counts.Goals as goal

pub unreachable-requires : goal.unreachable-requires
unreachable-requires c = let t = c.in-Some.ensures in let n = c.has_no_other.ensures in let h = c.requires.has c.in-Some.waiter.waker.number t.3 (let a = t.1 in let b = c.requires.of.0 in omega arith) in omega arith
