use Rattle.std.proofs.Common.{◌≡◌}
use Rattle.lfm_mutex.proofs.mutex.Mutex.await_grant.Given as goal

-- a poll wakes nobody
abbrev pub invariant-loop-made : goal.invariant-loop-made
invariant-loop-made g l = l.off_trail.woken ≡ l.fn.off_trail.woken
