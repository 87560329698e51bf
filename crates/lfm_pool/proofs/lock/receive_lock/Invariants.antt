use Rattle.lfm_pool.proofs.Waits.{Waiting}
use Rattle.lfm_pool.proofs.lock.receive_lock.Given as goal

abbrev pub invariant-receives : goal.invariant-receives
invariant-receives g l = Waiting l.fn.seat l.seat l.pool l.mutex
