use Rattle.std.proofs.Common.{◌≡◌, ◌≤◌, ◌+◌, ◌&&◌, ℕ, Bool, List, Option, Result, drop, length, vec_capacity}
use Rattle.lfm_text.specs.declared.faults.WriteFault.{WriteFault}
use Rattle.lfm_core.specs.text.Trace.{lines_text, none_refused}
use Rattle.lfm_text.specs.Writing.{Writes}
use Rattle.lfm_core.proofs.text.replaying.write_lines.Given as goal

-- If the text of the remaining lines is written next, then the whole text was written, with what came before.
abbrev pub invariant-running : goal.invariant-running
invariant-running g l = record {
  finishes : (new : Option (List ℕ)) (r : Result Bool WriteFault) → Writes (g.W.Write.contents l.writer) new (lines_text (l.index + 2) l.state (drop l.index l.lines)) r
      → Writes (g.W.Write.contents l.fn.writer) new (lines_text 2 l.fn.state l.lines) r;
  verdict : (l.none_refused && none_refused l.state (drop l.index l.lines)) ≡ none_refused l.fn.state l.lines;
  capacity : length l.state.seats ≤ vec_capacity l.records;
}
