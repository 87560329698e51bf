use Rattle.lfm_plain_test_tools.specs.Hands.{IsHandOf}
use Rattle.lfm_plain_condvar_tests.proofs.behind_waker.wake_often.Given as goal

abbrev pub invariant-wakes : goal.invariant-wakes
invariant-wakes g l = IsHandOf l.hand l.mutex l.condvar
