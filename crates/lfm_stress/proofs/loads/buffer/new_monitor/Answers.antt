use Rattle.lfm_monitor.specs.Belongs.{OfMonitor}
use Rattle.lfm_mutex.proofs.Lists.{all_by_place}
use Rattle.lfm_stress.proofs.loads.buffer.new_monitor.Goals as goal

-- the pace is no part of what the passes belong to
pub returns : goal.returns
returns c = all_by_place (λ p. OfMonitor p c.set_pace.new.self) c.in-Ok.passes.items (λ j p at. c.set_pace.ensures.belongs p (c.in-Ok.ensures.belongs j p at))
