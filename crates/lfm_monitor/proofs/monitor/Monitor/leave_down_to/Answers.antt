use Rattle.std.proofs.Common.{suc, arith, refl}
use Rattle.lfm_monitor.specs.Belongs.{pass_sight, seen_of}
use Rattle.lfm_monitor.proofs.Holding.{gives_up_none, gives_up_one, leaves_one}
use Rattle.lfm_monitor.proofs.monitor.Monitor.leave_down_to.Goals as goal

pub holds-init : goal.holds-init
holds-init g c = record { belongs = c.requires.belongs; gives_up = gives_up_none c.args.pass.now; steps = (0, refl); enough = omega arith }

-- one more hold was given up
pub holds-preserved : goal.holds-preserved
holds-preserved g c = let i = c.holds.invariant in let e = c.in-Ok.ensures in let m = c.holds.pass in let q = c.leave.new.pass in
    let one = leaves_one c.in-Ok.field-0 (pass_sight m) (pass_sight q) (seen_of m) (seen_of q) e.leaves in record {
      belongs = e.belongs;
      gives_up = gives_up_one c.args.pass.now m q i.gives_up one e.mine e.conditions e.woken e.run;
      steps = (suc i.steps.0, (pass_sight m, c.in-Ok.field-0, i.steps.1, e.steps));
      enough = let deep = c.holds-test.true in let is = c.depth.ensures in let less = one.depth in omega arith;
    }
