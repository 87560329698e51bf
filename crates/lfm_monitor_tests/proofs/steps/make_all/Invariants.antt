use Rattle.lfm_monitor_tests.specs.Ours.{Ours}
use Rattle.lfm_monitor_tests.proofs.steps.make_all.Given as goal

-- both passes stay the monitor's
abbrev pub invariant-making : goal.invariant-making
invariant-making g l = Ours l.first l.monitor × Ours l.second l.monitor
