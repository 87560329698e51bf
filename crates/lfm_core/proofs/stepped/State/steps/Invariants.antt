use Rattle.std.proofs.Common.{◌≡◌, ◌-◌}
use Rattle.lfm_core.specs.text.Lines.{steps}
use Rattle.lfm_core.proofs.stepped.State.steps.Given as goal

abbrev pub invariant-loop : goal.invariant-loop
invariant-loop l = steps (l.most - l.counter) l.self l.s ≡ steps l.most l.fn.self l.s
