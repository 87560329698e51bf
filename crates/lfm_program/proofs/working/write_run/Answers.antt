use Rattle.lfm_text.proofs.Writes.{failed_after}
use Rattle.lfm_program.proofs.working.write_run.Goals as goal

pub returns-in_err-flush : goal.returns-in_err-flush
returns-in_err-flush g c = failed_after _ _ _ _ _ _ _ (rw c.deref.ensures.value at c.in_ok-write_report.ensures) c.in_err-flush.ensures c.from_residual-in_err-flush.ensures.1
