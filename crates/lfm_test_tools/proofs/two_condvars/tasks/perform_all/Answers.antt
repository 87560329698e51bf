use Rattle.std.proofs.Common.{arith}
use Rattle.lfm_test_tools.proofs.two_condvars.tasks.perform_all.Goals as goal

pub returns : goal.returns
returns g c = λ i d h. let l = c.in_ok-parts.ensures.len in let a = c.in_ok-parts.parts.ok.0 in let b = c.args.parts.ok.0 in
    (c.in_ok-parts.ensures.each i d (omega arith)).1.call.met
