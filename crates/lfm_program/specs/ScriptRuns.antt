-- The stages of a script's run, from the passes of a new monitor to the results of its workers.
use Rattle.std.specs.Prelude.{◌≡◌, ◌+◌, ◌/◌, ℕ, Bool, true, false, List, [], ◌∷◌, length, Option, Some, None}
use mathlib.Core.Option.{some}
use lib.ListN.{get_elem?}
use Rattle.lfm_model.specs.declared.objects.Total.{Total}
use Rattle.lfm_model.specs.declared.objects.TotalOp.{TotalOp}
use Rattle.lfm_model.specs.declared.refusals.Refusal.{Refusal}
use Rattle.lfm_monitor.specs.declared.monitor.Monitor.{Monitor}
use Rattle.lfm_monitor.specs.declared.pass.Pass.{Pass}
use Rattle.lfm_monitor.specs.Begun.{NewPass, max_entries}
use Rattle.lfm_monitor.specs.Belongs.{conditions_of, opening_of, passes_of, plain_conditions_of, share_of}
use Rattle.lfm_program.specs.declared.performed.Performed.TheVariants.{Done, Refused, Stuck}
use Rattle.lfm_program.specs.declared.workers.Worked.{Worked}
use Rattle.lfm_program.specs.declared.workers.WorkerEnd.{WorkerEnd}
use Rattle.lfm_program.specs.declared.workers.WorkerEnd.TheVariants.{Performed as LetGo}

module _ {R : Type 0} {K : _} where
  -- a new monitor over a total of 0, with these passes, one for each worker, in order; each has the same share of the entries
  pub record MadeReady (workers conditions : ℕ) (m : Monitor Total TotalOp R K) (ps : List (Pass Total TotalOp R K)) : Type 0 where
    pub opening : opening_of m ≡ record { 0 = 0 }
    pub monitor_has : passes_of m ≡ workers
    pub share : share_of m ≡ max_entries / workers
    pub conditions_are : conditions_of m ≡ conditions
    pub sent : plain_conditions_of m ≡ 0
    pub count : length ps ≡ workers
    pub passes : (j : ℕ) (p : Pass Total TotalOp R K) → get_elem? ps j ≡ some p → NewPass m (j + 1) p

-- all commands were made, or one was refused for this cause
abbrev pub EndsSo : WorkerEnd → Option Refusal → Type 0
EndsSo end None = end ≡ LetGo Done
EndsSo end (Some r) = end ≡ LetGo (Refused r)

-- the refusals are those of the workers, none of which was stopped
pub record Divides (ws : List Worked) (passes : List _) (refusals : List (Option Refusal)) : Type 0 where
  pub many : length passes ≡ length ws
  pub as_many : length refusals ≡ length ws
  pub each : (j : ℕ) (w : Worked) → get_elem? ws j ≡ some w → (get_elem? passes j ≡ some w.pass) × ((r : Option Refusal) × (get_elem? refusals j ≡ some r) × EndsSo w.end r)

-- some worker was stopped
abbrev pub HasStopped : List Worked → Type 0
HasStopped ws = (j : ℕ) × (w : Worked) × (get_elem? ws j ≡ some w) × (w.end ≡ LetGo Stuck)

-- whether no worker was refused
abbrev pub are_none : List (Option Refusal) → Bool
are_none [] = true
are_none (None ∷ rs) = are_none rs
are_none (Some r ∷ rs) = false
