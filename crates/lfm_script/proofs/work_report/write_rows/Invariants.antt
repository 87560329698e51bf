use Rattle.std.proofs.Common.{ℕ, List, Option, Result, drop}
use Rattle.lfm_text.specs.declared.faults.WriteFault.{WriteFault}
use Rattle.lfm_text.specs.Writing.{Writes}
use Rattle.lfm_script.specs.Report.{rows_text}
use Rattle.lfm_script.proofs.work_report.write_rows.Given as goal

-- Writing the text of the rows that are left completes the text of all rows.
abbrev pub invariant-writing : goal.invariant-writing
invariant-writing g l = record {
  finishes : (new : Option (List ℕ)) (r : Result (Unit {0}) WriteFault) → Writes (g.W.Write.contents l.writer) new (rows_text (drop l.row-index l.rows)) r
      → Writes (g.W.Write.contents l.fn.writer) new (rows_text l.rows) r;
}
