use Rattle.lfm_monitor.specs.Belongs.{OfMonitor}
use Rattle.lfm_stress.proofs.loads.buffer.work.Given as goal

-- the pass stays one of the monitor's
abbrev pub invariant-turns : goal.invariant-turns
invariant-turns g l = OfMonitor l.pass l.monitor
