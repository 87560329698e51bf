use Rattle.std.proofs.Common.{◌≡◌, ℕ}
use Rattle.std.specs.Fn.{FnReturnsAt}
use Rattle.lfm_monitor.specs.Belongs.{OfMonitor, PassPollsAndWakesAsGranted, PassRunGoesOnFrom, cond_seats_of, pass_sight, plain_seats_of}
use Rattle.lfm_monitor.specs.CondSeats.{CondsWokenAsGranted}
use Rattle.lfm_monitor.specs.PlainSeats.{PlainSeatsWokenAsGranted}
use Rattle.lfm_monitor.specs.Tries.{FailedTries}
use Rattle.lfm_monitor.proofs.monitor.Monitor.apply_until.Given as goal

-- each try so far failed
abbrev pub invariant-tries : goal.invariant-tries
invariant-tries g l = record {
  belongs : OfMonitor l.pass l.self;
  run : PassRunGoesOnFrom l.fn.pass l.pass;
  woken : PassPollsAndWakesAsGranted l.fn.pass l.pass;
  cond_woken : CondsWokenAsGranted (cond_seats_of l.fn.pass) (cond_seats_of l.pass);
  plain_woken : PlainSeatsWokenAsGranted (plain_seats_of l.fn.pass) (plain_seats_of l.pass);
  depth : (pass_sight l.pass).depth ≡ (pass_sight l.fn.pass).depth;
  number : (pass_sight l.pass).number ≡ (pass_sight l.fn.pass).number;
  tries : (n : ℕ) × FailedTries g.O.Object.after g.O.Object.reply l.self l.condition l.op (λ r b. FnReturnsAt g.F.Fn l.done r b) n l.fn.pass l.pass;
}
