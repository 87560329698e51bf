use Rattle.lfm_text.proofs.Writes.{failed_after}
use Rattle.lfm_core.proofs.text.reading.write_fault.Goals as goal

pub returns-in_err-flush : goal.returns-in_err-flush
returns-in_err-flush g c = failed_after _ _ _ _ _ _ _ c.in_ok-write_fault_line.ensures c.in_err-flush.ensures c.from_residual-in_err-flush.ensures.1
