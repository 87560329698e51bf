use Rattle.std.proofs.Common.{ap}
use Rattle.lfm_pool.specs.declared.wake_up.off_trail.OffTrail.{OffTrail}
use Rattle.lfm_pool.proofs.calls.ask.Goals as goal

pub returns-clause-asks : goal.returns-clause-asks
returns-clause-asks c =
    let h = c.ask_without_waking-asked in let u = h.new.seat in
    (h.result.1, u, h.ensures.asks, ap (λ (o : OffTrail). record u { off_trail = o }) c.wake_granted_and_note.ensures)
