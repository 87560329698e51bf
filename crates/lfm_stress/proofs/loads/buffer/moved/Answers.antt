use Rattle.lfm_monitor.specs.Belongs.{OfMonitor}
use Rattle.lfm_mutex.proofs.Lists.{each_of_all}
use Rattle.lfm_stress.proofs.loads.buffer.moved.Goals as goal

pub close-requires-clause-belongs : goal.close-requires-clause-belongs
close-requires-clause-belongs g c κs = each_of_all (λ p. OfMonitor p c.in_ok-monitor.monitor) c.in_ok-passes.passes.items c.in_ok-passes.ensures
