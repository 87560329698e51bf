use Rattle.lfm_plain_test_tools.specs.Hands.{IsHandOf}
use Rattle.lfm_plain_condvar_tests.proofs.broadcast.wake_both.Given as goal

abbrev pub invariant-reads : goal.invariant-reads
invariant-reads g l = IsHandOf l.hand l.mutex l.condvar
