use Rattle.lfm_plain_test_tools.specs.Hands.{IsHandOf}
use Rattle.lfm_plain_condvar_tests.proofs.behind_waker.wait_often.Given as goal

abbrev pub invariant-waits : goal.invariant-waits
invariant-waits g l = IsHandOf l.hand l.mutex l.condvar
