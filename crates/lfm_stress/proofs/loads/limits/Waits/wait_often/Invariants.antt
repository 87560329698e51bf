use Rattle.lfm_plain_test_tools.specs.Hands.{IsHandOf}
use Rattle.lfm_stress.proofs.loads.limits.Waits.wait_often.Given as goal

-- the hand stays one of the mutex and the condvar
abbrev pub invariant-waits : goal.invariant-waits
invariant-waits g l = IsHandOf l.hand l.mutex l.condvar
