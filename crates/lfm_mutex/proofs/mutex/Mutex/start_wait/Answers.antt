use Rattle.std.proofs.Common.{◌++◌, ◌∙◌, ap}
use Rattle.lfm_table.specs.declared.shared_table.off_trail.OffTrail.{OffTrail}
use Rattle.lfm_mutex.specs.calls.WakeUps.{as_list}
use Rattle.lfm_mutex.proofs.mutex.Mutex.start_wait.Goals as goal

pub returns-clause-woken : goal.returns-clause-woken
returns-clause-woken g c = let f = c.start_wait_without_waking-released in (as_list f.result.1, c.wake_seat.ensures ∙ ap (λ (o : OffTrail). record o { woken = o.woken ++ as_list f.result.1 }) f.ensures.woken, f.ensures.wakes.granted)
