-- Each refusal that has a cause is one that the command may meet.
use Rattle.std.proofs.Common.{ℕ}
use Rattle.lfm_model.specs.declared.objects.Total.{Total}
use Rattle.lfm_model.specs.declared.objects.TotalOp.{TotalOp}
use Rattle.lfm_model.specs.declared.refusals.Refusal.{Refusal}
use Rattle.lfm_monitor.specs.declared.monitor.Monitor.{Monitor}
use Rattle.lfm_monitor.specs.declared.pass.Pass.{Pass}
use Rattle.lfm_monitor.specs.Belongs.{conditions_of}
use Rattle.lfm_script.specs.declared.script.Command.{Command}
use Rattle.lfm_script.specs.declared.script.Command.TheVariants.{Add, Until, One, All}
use Rattle.lfm_script.specs.Runs.{MayMeet, WakeMayMeet}
use Rattle.lfm_program.specs.Causes.{HasCause, WakeHasCause}

module _ {R : Type 0} {K : _} where
  wake_may_meet : (m : Monitor Total TotalOp R K) (p : Pass Total TotalOp R K) (condition : ℕ) (r : Refusal) → WakeHasCause condition m p r → WakeMayMeet (conditions_of m) condition r
  wake_may_meet m p condition Refusal.Asleep cause = absurd cause
  wake_may_meet m p condition Refusal.NotOwner cause = absurd cause
  wake_may_meet m p condition Refusal.Nested cause = absurd cause
  wake_may_meet m p condition Refusal.DepthFull cause = absurd cause
  wake_may_meet m p condition Refusal.Spent cause = tt
  wake_may_meet m p condition Refusal.NoSuchSeat cause = cause
  wake_may_meet m p condition Refusal.NotWaiting cause = tt
  wake_may_meet m p condition Refusal.Busy cause = absurd cause

  pub may_meet : (m : Monitor Total TotalOp R K) (p : Pass Total TotalOp R K) (c : Command) (r : Refusal) → HasCause c m p r → MayMeet (conditions_of m) c r
  may_meet m p (Add k) Refusal.Asleep cause = absurd cause
  may_meet m p (Add k) Refusal.NotOwner cause = absurd cause
  may_meet m p (Add k) Refusal.Nested cause = absurd cause
  may_meet m p (Add k) Refusal.DepthFull cause = absurd cause
  may_meet m p (Add k) Refusal.Spent cause = tt
  may_meet m p (Add k) Refusal.NoSuchSeat cause = absurd cause
  may_meet m p (Add k) Refusal.NotWaiting cause = absurd cause
  may_meet m p (Add k) Refusal.Busy cause = absurd cause
  may_meet m p (Until condition k) Refusal.Asleep cause = absurd cause
  may_meet m p (Until condition k) Refusal.NotOwner cause = absurd cause
  may_meet m p (Until condition k) Refusal.Nested cause = absurd cause
  may_meet m p (Until condition k) Refusal.DepthFull cause = absurd cause
  may_meet m p (Until condition k) Refusal.Spent cause = tt
  may_meet m p (Until condition k) Refusal.NoSuchSeat cause = cause
  may_meet m p (Until condition k) Refusal.NotWaiting cause = absurd cause
  may_meet m p (Until condition k) Refusal.Busy cause = tt
  may_meet m p (One condition) r cause = wake_may_meet m p condition r cause
  may_meet m p (All condition) r cause = wake_may_meet m p condition r cause
