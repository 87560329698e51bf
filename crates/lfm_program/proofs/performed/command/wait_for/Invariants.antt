use Rattle.std.proofs.Common.{◌≡◌}
use Rattle.lfm_monitor.specs.Belongs.{OfMonitor, pass_sight}
use Rattle.lfm_program.specs.Performs.{HoldsOnce, own_adds}
use Rattle.lfm_program.proofs.performed.command.wait_for.Given as goal

-- the pass holds the monitor, and has added nothing
abbrev pub invariant-waiting : goal.invariant-waiting
invariant-waiting g l = record {
  belongs : OfMonitor l.pass l.monitor;
  holds : HoldsOnce (pass_sight l.pass);
  number : (pass_sight l.pass).number ≡ (pass_sight l.fn.pass).number;
  adds : own_adds (pass_sight l.pass) ≡ own_adds (pass_sight l.fn.pass);
}
