use Rattle.std.proofs.Common.{subst}
use Rattle.lfm_monitor.specs.Sections.{GivesUpTo}
use Rattle.lfm_monitor.proofs.Holding.{held}
use Rattle.lfm_monitor.proofs.monitor.Monitor.hold.Goals as goal

-- the section was executed between the take and the leaves
pub returns-clause-holds : goal.returns-clause-holds
returns-clause-holds g c = let e = c.in_ok-_locked.ensures in let x = c.execute-answer in
    held {U = g.row.S-Answer.Denot} c.args.self.now (λ p q r. g.S.CriticalSection.makes c.args.section.now c.args.round p q r) c.args.pass.now c.leave_down_to.new.pass x.result record {
      entered = c.enter_by.new.pass;
      executed = x.new.pass;
      locked = c.in_ok-_locked._locked;
      enters = e.enters;
      steps = e.steps;
      keeps = (e.seen, e.conditions);
      run = e.run;
      woken = e.woken;
      belong = (e.belongs, x.ensures.belongs);
      executes = x.ensures.makes;
      leaves = subst (λ d. GivesUpTo d x.new.pass c.leave_down_to.new.pass) c.depth-depth.ensures c.leave_down_to.ensures.leaves;
      left = c.leave_down_to.ensures.steps;
    }
