use Rattle.lfm_plain_test_tools.specs.Hands.{IsHandOf}
use Rattle.lfm_plain_condvar_tests.proofs.woken_together.lock_once_they_wait.Given as goal

abbrev pub invariant-reads : goal.invariant-reads
invariant-reads g l = IsHandOf l.hand l.mutex l.condvar
