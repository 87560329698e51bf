use Rattle.std.proofs.Common.{◌≡◌, ℕ, List, Option, Result, vec_capacity, vec_len}
use Rattle.std.specs.Prelude.{reverse}
use Rattle.lfm_text.specs.declared.faults.WriteFault.{WriteFault}
use Rattle.lfm_core.specs.text.Trace.{queue_text, further_text}
use Rattle.lfm_text.specs.Writing.{Writes}
use Rattle.lfm_core.proofs.text.trace.write_queue.Given as goal

-- If the text of the remaining records is written next, then the whole text was written, with what came before.
abbrev pub invariant-writing : goal.invariant-writing
invariant-writing g l = record {
  finishes : (new : Option (List ℕ)) (r : Result (Unit {0}) WriteFault) → Writes (g.W.Write.contents l.writer) new (further_text (reverse l.records.items)) r
      → Writes (g.W.Write.contents l.fn.writer) new (queue_text (reverse l.fn.records.items)) r;
  capacity : vec_capacity l.records ≡ vec_capacity l.fn.records;
}

abbrev pub decreases-writing : goal.decreases-writing
decreases-writing g l = vec_len l.records
