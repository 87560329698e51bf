-- What a worker's thread returns.
use Rattle.std.specs.Prelude.{◌≡◌, ◌+◌, ◌<◌, ◌≤◌, ℕ, List, ◌++◌, length, take}
use Rattle.lfm_model.specs.declared.objects.Total.{Total}
use Rattle.lfm_model.specs.declared.objects.TotalOp.{TotalOp}
use Rattle.lfm_mutex.specs.Close.{Idle}
use Rattle.lfm_monitor.specs.declared.monitor.Monitor.{Monitor}
use Rattle.lfm_monitor.specs.declared.pass.Pass.{Pass}
use Rattle.lfm_monitor.specs.Belongs.{OfMonitor, pass_sight}
use Rattle.lfm_program.specs.declared.performed.Performed.{Performed}
use Rattle.lfm_program.specs.declared.performed.Performed.TheVariants.{Done, Stuck}
use Rattle.lfm_script.specs.declared.script.Command.{Command}
use Rattle.lfm_script.specs.Adds.{all_adds}
use Rattle.lfm_script.specs.script.Commands.{commands_of}
use Rattle.lfm_script.specs.script.Grammar.{Plan}
use Rattle.lfm_program.specs.declared.workers.WorkerEnd.{WorkerEnd}
use Rattle.lfm_program.specs.declared.workers.WorkerEnd.TheVariants.{Performed as LetGo}
use Rattle.lfm_program.specs.Causes.{RefusedForCause}
use Rattle.lfm_program.specs.Performs.{own_adds}

-- a gate with these stops may stop this worker before one of its commands, of which there are this many
abbrev pub StopsOne : (ℕ → ℕ → Type 0) → ℕ → ℕ → Type 0
StopsOne stops worker count = (i : ℕ) × (i < count) × stops worker (i + 1)

-- the gate may stop a worker of the script before one of its commands
abbrev pub StopsIn : (ℕ → ℕ → Type 0) → Plan → Type 0
StopsIn stops p = (w : ℕ) × (0 < w) × (w ≤ p.workers) × StopsOne stops w (length (commands_of w p.lines))

-- the gate may stop this worker before one of these commands, and exactly the numbers of the commands before that one were
-- added to the old numbers
abbrev pub StoppedAt : (ℕ → ℕ → Type 0) → ℕ → List Command → List ℕ → List ℕ → Type 0
StoppedAt stops worker ms old new = (i : ℕ) × (i < length ms) × (new ≡ old ++ all_adds (take i ms)) × stops worker (i + 1)

module _ {R : Type 0} {K : _} where
  -- The commands of a worker, at a gate with these stops, have changed the pass p of the monitor to q. If the start was called
  -- off, nothing more is stated
  pub record WorksAs (m : Monitor Total TotalOp R K) (stops : ℕ → ℕ → Type 0) (ms : List Command) (p q : Pass Total TotalOp R K) (end : WorkerEnd) : Type 0 where
    pub belongs : OfMonitor q m
    pub idle : Idle (pass_sight q)
    pub number : (pass_sight q).number ≡ (pass_sight p).number
    pub done : end ≡ LetGo Done → own_adds (pass_sight q) ≡ own_adds (pass_sight p) ++ all_adds ms
    pub refused : (r : Performed) → end ≡ LetGo r → RefusedForCause m ms (own_adds (pass_sight p)) q r
    pub stopped : end ≡ LetGo Stuck → StoppedAt stops (pass_sight p).number ms (own_adds (pass_sight p)) (own_adds (pass_sight q))

  -- the pass is one of the monitor's, and neither holds nor sleeps
  abbrev pub ReadyFor : Monitor Total TotalOp R K → Pass Total TotalOp R K → Type 0
  ReadyFor m p = OfMonitor p m × Idle (pass_sight p)
