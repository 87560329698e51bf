use Rattle.std.proofs.Common.{◌≡◌, ◌++◌, take, drop}
use Rattle.lfm_core.specs.text.Lines.{lines_core, lines_turns}
use Rattle.lfm_core.proofs.text.schedule_runs.follow_all.Given as goal

abbrev pub invariant-loop-index : goal.invariant-loop-index
invariant-loop-index l = record {
  core : lines_core l.state (drop l.index l.lines) ≡ lines_core l.fn.state l.lines;
  turns : take l.index l.turns ++ lines_turns l.state (drop l.index l.lines) ≡ lines_turns l.fn.state l.lines;
}
