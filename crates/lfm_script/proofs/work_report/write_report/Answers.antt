use Rattle.lfm_text.proofs.Writes.{failed_within}
use Rattle.lfm_script.proofs.work_report.write_report.Goals as goal

pub returns-in_err-write_rows : goal.returns-in_err-write_rows
returns-in_err-write_rows g c = failed_within _ _ _ _ _ _ c.in_err-write_rows.ensures c.from_residual.ensures.1
