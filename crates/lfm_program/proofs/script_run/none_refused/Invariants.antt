use Rattle.std.proofs.Common.{◌≡◌, drop}
use Rattle.lfm_program.specs.ScriptRuns.{are_none}
use Rattle.lfm_program.proofs.script_run.none_refused.Given as goal

-- none so far was refused, so the rest decides the answer
abbrev pub invariant-looking : goal.invariant-looking
invariant-looking l = are_none l.refusals ≡ are_none (drop l.refused-index l.refusals)
