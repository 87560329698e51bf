use Rattle.lfm_plain_test_tools.specs.Hands.{IsHandOf}
use Rattle.lfm_stress.proofs.loads.limits.Waits.wake_often.Given as goal

-- the hand stays one of the mutex and the condvar
abbrev pub invariant-wakes : goal.invariant-wakes
invariant-wakes g l = IsHandOf l.hand l.mutex l.condvar
