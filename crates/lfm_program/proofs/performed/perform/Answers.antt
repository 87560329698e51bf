use Rattle.std.proofs.Common.{rules, ◌∙◌}
use Rattle.lfm_program.proofs.Commands.{all_made, one_more}
use Rattle.lfm_program.proofs.Refusing.{refused_there}
use Rattle.lfm_program.proofs.performed.perform.Goals as goal

pub performing-preserved : goal.performing-preserved
performing-preserved g c = record {
  belongs = c.in-Ok.ensures.belongs;
  idle = c.in-Ok.ensures.idle;
  number = c.in-Ok.ensures.number ∙ c.performing.invariant.number;
  adds = one_more c.args.commands.now c.performing.index _ _ _ _ c.performing-test.true c.performing.invariant.adds c.in-Ok.ensures.adds;
}

pub returns-in-Err-clause-refused : goal.returns-in-Err-clause-refused
returns-in-Err-clause-refused g c =
    refused_there c.args.monitor.now c.args.commands.now c.performing.index _ _ _ _ _ c.performing-test.true c.performing.invariant.adds c.in-Err.ensures.adds c.in-Err.ensures.refused

pub returns-clause-done : goal.returns-clause-done
returns-clause-done g c = λ _. all_made c.args.commands.now c.performing.index _ _ c.performing-test.false c.performing.invariant.adds

pub returns-then-not-before-clause-stopped : goal.returns-then-not-before-clause-stopped
returns-then-not-before-clause-stopped g c = λ _. (c.performing.index, c.performing-test.true, c.performing.invariant.adds, search rules)
