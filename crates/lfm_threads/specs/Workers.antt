-- The threads that were given a job.
use Rattle.std.specs.Prelude.{◌≡◌, ℕ, List}
use mathlib.Core.Option.{some}
use lib.ListN.{get_elem?}
use Rattle.lfm_threads.specs.declared.task.Task as Task
use Rattle.lfm_threads.specs.declared.workers.Worker.{Worker}
use Rattle.lfm_threads.specs.declared.workers.Worker.TheVariants.{Started, Refused}
use Rattle.lfm_threads.specs.Together.{Arrives}

module _ {P X K : Type 0} (g : Task.Ghosts K P X) (task : K) where
  -- the job was given to a thread; or to no thread, and this is its outcome
  abbrev pub HasJob : ℕ → P → Worker P X K → Type 0
  HasJob latch p (Started h) = (h.promise.latch.value.start.id ≡ latch) × (h.promise.job.value ≡ p) × (h.promise.task.value ≡ task)
  HasJob latch p (Refused a) = Arrives (g.gives task) latch p a

  -- each job has been given to the worker at its place
  abbrev pub AllHaveJobs : ℕ → List P → List (Worker P X K) → Type 0
  AllHaveJobs latch jobs workers = (j : ℕ) (w : Worker P X K) → get_elem? workers j ≡ some w → (p : P) × (get_elem? jobs j ≡ some p) × HasJob latch p w
