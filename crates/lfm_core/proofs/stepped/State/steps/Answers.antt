use Rattle.std.proofs.Common.{rules, tests, ◌∙◌, ◌-◌, sym, ap, arith}
use Rattle.lfm_core.proofs.texts.Lines.{steps-stop, steps-on}
use Rattle.lfm_core.proofs.stepped.State.steps.Goals as goal

pub returns-then-not-is_open-clause-turn : goal.returns-then-not-is_open-clause-turn
returns-then-not-is_open-clause-turn c =
    c.step-turn.ensures.turn ∙ ap (λ m. m.turn) (sym (steps-stop (c.args.most - c.loop.counter) c.loop.self c.args.s (omega (arith, c.loop-test.true)) (search (rules, tests))) ∙ c.loop.invariant)

pub loop-preserved : goal.loop-preserved
loop-preserved c =
    rw c.step-turn.ensures.core (sym (steps-on c.args.most c.loop.counter c.loop.self c.args.s (omega (arith, c.loop-test.true)) (search (rules, tests))) ∙ c.loop.invariant)
