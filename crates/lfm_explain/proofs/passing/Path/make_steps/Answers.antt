use Rattle.std.proofs.Common.{rules, ◌≡◌, ◌∙◌, true, false, sym, ap}
use Rattle.lfm_protocol.specs.Step.{step}
use Rattle.lfm_protocol.specs.Turns.{is_open}
use Rattle.lfm_explain.proofs.StepsLeft.{stops, goes_on}
use Rattle.lfm_explain.proofs.passing.Path.make_steps.Goals as goal

pub returns-then-not-is_open-clause-core : goal.returns-then-not-is_open-clause-core
returns-then-not-is_open-clause-core g c =
    let closed : is_open (step c.loop.state c.args.s).turn ≡ false = search rules in
    c.make.ensures.core ∙ ap (λ m. m.core) (sym (stops c.args.most c.loop.counter c.loop.state c.args.s c.loop-test.true closed) ∙ c.loop.invariant.rest)

pub returns-then-not-is_open-clause-turn : goal.returns-then-not-is_open-clause-turn
returns-then-not-is_open-clause-turn g c =
    let closed : is_open (step c.loop.state c.args.s).turn ≡ false = search rules in
    c.in_ok-turn.ensures.turn ∙ ap (λ m. m.turn) (sym (stops c.args.most c.loop.counter c.loop.state c.args.s c.loop-test.true closed) ∙ c.loop.invariant.rest)

pub loop-preserved : goal.loop-preserved
loop-preserved g c =
    let lasts : is_open (step c.loop.state c.args.s).turn ≡ true = search rules in
    record {
      rest = rw c.make.ensures.core (sym (goes_on c.args.most c.loop.counter c.loop.state c.args.s c.loop-test.true lasts) ∙ c.loop.invariant.rest);
    }
