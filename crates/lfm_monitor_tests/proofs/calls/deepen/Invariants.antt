use Rattle.lfm_monitor_tests.specs.Ours.{Ours}
use Rattle.lfm_monitor_tests.proofs.calls.deepen.Given as goal

-- the pass stays the monitor's
abbrev pub invariant-entering : goal.invariant-entering
invariant-entering g l = Ours l.pass l.monitor
