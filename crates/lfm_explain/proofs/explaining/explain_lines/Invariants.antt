use Rattle.std.proofs.Common.{◌≡◌, ◌≤◌, ◌&&◌, drop, length, vec_capacity}
use Rattle.lfm_core.specs.text.Trace.{none_refused}
use Rattle.lfm_explain.proofs.explaining.explain_lines.Given as goal

-- The answer so far, together with the answer for the lines that are left, is the answer for all lines.
abbrev pub invariant-running : goal.invariant-running
invariant-running g l = record {
  verdict : (l.none_refused && none_refused l.state (drop l.index l.lines)) ≡ none_refused l.fn.state l.lines;
  capacity : length l.state.seats ≤ vec_capacity l.records;
}
