use Rattle.std.proofs.Common.{◌≡◌, ◌&&◌, drop}
use Rattle.lfm_core.specs.text.Trace.{none_refused}
use Rattle.lfm_explain.proofs.passing.Path.follow_all.Given as goal

-- The answer so far, together with the answer for the lines that are left, is the answer for all lines.
abbrev pub invariant-running : goal.invariant-running
invariant-running g l = record {
  verdict : (l.none_refused && none_refused l.state (drop l.line-index l.lines)) ≡ none_refused l.fn.state l.lines;
}
