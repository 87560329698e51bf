use Rattle.lfm_monitor_tests.specs.Ours.{Ours}
use Rattle.lfm_monitor_tests.proofs.steps.make_alone.Given as goal

-- the pass stays the monitor's
abbrev pub invariant-making : goal.invariant-making
invariant-making g l = Ours l.pass l.monitor
