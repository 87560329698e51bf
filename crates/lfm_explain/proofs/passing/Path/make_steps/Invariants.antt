use Rattle.std.proofs.Common.{◌≡◌, ◌-◌}
use Rattle.lfm_core.specs.text.Lines.{steps}
use Rattle.lfm_explain.proofs.passing.Path.make_steps.Given as goal

-- the steps that are left lead to the same state and turn as all steps
abbrev pub invariant-loop : goal.invariant-loop
invariant-loop g l = record {
  rest : steps (l.fn.most - l.counter) l.state l.fn.s ≡ steps l.fn.most l.fn.state l.fn.s;
}
