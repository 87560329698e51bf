use Rattle.std.proofs.Common.{List, ℕ, Option, Result, drop}
use Rattle.lfm_shown.specs.Graphs.{further_numbers, state_line}
use Rattle.lfm_text.specs.declared.faults.WriteFault.{WriteFault}
use Rattle.lfm_text.specs.Writing.{Writes}
use Rattle.lfm_shown.proofs.graphs.texts.write_state_line.Given as goal

-- If the numbers that are left are written next, then the whole line was written, with what came before.
abbrev pub invariant-numbers : goal.invariant-numbers
invariant-numbers g l = record {
  finishes : (new : Option (List ℕ)) (r : Result (Unit {0}) WriteFault) → Writes (g.W.Write.contents l.writer) new (further_numbers (drop l.number-index l.numbers)) r
      → Writes (g.W.Write.contents l.fn.writer) new (state_line l.numbers) r;
}
