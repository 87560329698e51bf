use Rattle.lfm_monitor.specs.Belongs.{OfMonitor}
use Rattle.lfm_stress.proofs.loads.buffer.make.Given as goal

-- the pass stays one of the monitor's
abbrev pub invariant-tries : goal.invariant-tries
invariant-tries g l = OfMonitor l.pass l.monitor
