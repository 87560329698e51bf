use Rattle.std.proofs.Common.{◌≡◌, drop}
use Rattle.lfm_condvar.specs.Lists.{times}
use Rattle.lfm_condvar.proofs.waiters.Waiters.has.Given as goal

abbrev pub invariant-loop-i : goal.invariant-loop-i
invariant-loop-i l = times l.seat (drop l.i l.self.list.items) ≡ times l.seat l.self.list.items
