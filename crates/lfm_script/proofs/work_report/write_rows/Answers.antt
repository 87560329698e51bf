use Rattle.lfm_script.proofs.Reports.{row_written, row_failed, rows_end}
use Rattle.lfm_script.proofs.work_report.write_rows.Goals as goal

pub returns-in_err-write_row : goal.returns-in_err-write_row
returns-in_err-write_row g c =
    c.writing.invariant.finishes _ _ (row_failed c.writing.row-index _ _ c.writing-test.true _ _ _ _ c.in_err-write_row.ensures c.from_residual.ensures.1)

pub writing-preserved : goal.writing-preserved
writing-preserved g c = record {
  finishes = λ new r rest. c.writing.invariant.finishes new r (row_written c.writing.row-index _ _ c.writing-test.true _ _ new r c.in_ok-write_row.ensures rest);
}

pub returns : goal.returns
returns g c = c.writing.invariant.finishes _ _ (rows_end _ c.writing.row-index _ c.writing-test.false)
