-- What a worker's commands add, as its pass shows it.
use Rattle.std.specs.Prelude.{◌≡◌, ⊤, ℕ, false, List, ◌++◌, Result, Ok, Err}
use Rattle.lfm_model.specs.declared.objects.Total.{Total}
use Rattle.lfm_model.specs.declared.objects.TotalOp.{TotalOp}
use Rattle.lfm_model.specs.declared.refusals.Refusal.{Refusal}
use Rattle.lfm_model.specs.Journals.{own}
use Rattle.lfm_mutex.specs.calls.Sight.{Sight}
use Rattle.lfm_monitor.specs.declared.journaled.Journaled.{Journaled}
use Rattle.lfm_monitor.specs.Passes.{journal_of}
use Rattle.lfm_script.specs.declared.script.Command.{Command}
use Rattle.lfm_script.specs.Adds.{adds, command_adds}

module _ {R : Type 0} {K : _} where
  -- the numbers that the pass's own entries add
  abbrev pub own_adds : Sight (Journaled Total TotalOp R K) → List ℕ
  own_adds s = adds (own s.number (journal_of s))

  -- the pass holds once, and doesn't sleep
  pub record HoldsOnce (s : Sight (Journaled Total TotalOp R K)) : Type 0 where
    pub depth : s.depth ≡ 1
    pub awake : s.asleep ≡ false

  -- how one command ends: its number is added, or nothing if it was refused
  abbrev pub CommandEnds : Command → Sight (Journaled Total TotalOp R K) → Sight (Journaled Total TotalOp R K) → Result ⊤ Refusal → Type 0
  CommandEnds m s t (Ok u) = own_adds t ≡ own_adds s ++ command_adds m
  CommandEnds m s t (Err r) = own_adds t ≡ own_adds s
