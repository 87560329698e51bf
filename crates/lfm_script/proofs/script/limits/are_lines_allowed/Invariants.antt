use Rattle.std.proofs.Common.{◌≡◌, drop}
use Rattle.lfm_script.specs.script.Limits.{lines_allowed}
use Rattle.lfm_script.proofs.script.limits.are_lines_allowed.Given as goal

abbrev pub invariant-looking : goal.invariant-looking
invariant-looking l = lines_allowed l.workers l.conditions (drop l.line-index l.lines) ≡ lines_allowed l.workers l.conditions l.lines
