use Rattle.std.proofs.Common.{ℕ, ◌≤◌, min}
use Rattle.lfm_monitor.specs.Belongs.{OfMonitor, mutex_limits, pass_sight}
use Rattle.lfm_monitor.specs.Sections.{GivesUp}
use Rattle.lfm_monitor.specs.Steps.{ByUnlocks}
use Rattle.lfm_monitor.proofs.monitor.Monitor.leave_down_to.Given as goal

-- only holds above the depth were given up
abbrev pub invariant-holds : goal.invariant-holds
invariant-holds g l = record {
  belongs : OfMonitor l.pass l.self;
  gives_up : GivesUp l.fn.pass l.pass;
  steps : (n : ℕ) × ByUnlocks (mutex_limits l.self) n (pass_sight l.fn.pass) (pass_sight l.pass);
  enough : min (pass_sight l.fn.pass).depth l.depth ≤ (pass_sight l.pass).depth;
}

abbrev pub decreases-holds : goal.decreases-holds
decreases-holds g l = (pass_sight l.pass).depth
