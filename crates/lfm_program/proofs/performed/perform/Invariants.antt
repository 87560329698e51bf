use Rattle.std.proofs.Common.{◌≡◌, ◌++◌, take}
use Rattle.lfm_mutex.specs.Close.{Idle}
use Rattle.lfm_monitor.specs.Belongs.{OfMonitor, pass_sight}
use Rattle.lfm_script.specs.Adds.{all_adds}
use Rattle.lfm_program.specs.Performs.{own_adds}
use Rattle.lfm_program.proofs.performed.perform.Given as goal

-- the commands so far are made, and the pass neither holds nor sleeps
abbrev pub invariant-performing : goal.invariant-performing
invariant-performing g l = record {
  belongs : OfMonitor l.pass l.monitor;
  idle : Idle (pass_sight l.pass);
  number : (pass_sight l.pass).number ≡ (pass_sight l.fn.pass).number;
  adds : own_adds (pass_sight l.pass) ≡ own_adds (pass_sight l.fn.pass) ++ all_adds (take l.index l.commands);
}
