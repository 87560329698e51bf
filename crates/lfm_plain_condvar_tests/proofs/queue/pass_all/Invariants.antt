use Rattle.lfm_plain_test_tools.specs.Hands.{IsHandOf}
use Rattle.lfm_plain_condvar_tests.proofs.queue.pass_all.Given as goal

abbrev pub invariant-passes : goal.invariant-passes
invariant-passes g l = IsHandOf l.hand l.mutex l.condvar
