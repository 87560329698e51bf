-- Which journals suit a number of queued takes, and what one hold of a seat may add to a journal.
use Rattle.std.specs.Prelude.{◌≡◌, ℕ, ◌==◌, ◌&&◌, Bool, true, false, not, List, [], ◌∷◌, ◌++◌, length, drop}
use Rattle.lfm_model.specs.declared.journals.Entry.{Entry}
use Rattle.lfm_model.specs.JournalLaws.{is_take}
use Rattle.lfm_model.specs.Journals.{queued_from}
use Rattle.lfm_monitor.specs.declared.journaled.Journaled.{Journaled}

module _ {A : Type 0} where
  -- ops of seat s alone
  abbrev pub are_ops : ℕ → List (Entry A) → Bool
  are_ops s [] = true
  are_ops s (e ∷ es) = (e.seat == s) && (not (is_take e.what) && are_ops s es)

  -- one take of seat s, followed by ops of seat s alone
  abbrev pub is_hold : ℕ → List (Entry A) → Bool
  is_hold s [] = false
  is_hold s (e ∷ es) = (e.seat == s) && (is_take e.what && are_ops s es)

  -- the journal ks is js followed by one hold of s
  abbrev pub JournalGoesOn : ℕ → List (Entry A) → List (Entry A) → Type 0
  JournalGoesOn s js ks = (js ++ drop (length js) ks ≡ ks) × (is_hold s (drop (length js) ks) ≡ true)

module _ {O A R : Type 0} {K : _} where
  -- both belong to the same monitor
  abbrev pub SameOpening : Journaled O A R K → Journaled O A R K → Type 0
  SameOpening v w = (w.opening.value ≡ v.opening.value) × (w.seats ≡ v.seats) × (w.share ≡ v.share)

  abbrev pub JournalFits : Journaled O A R K → ℕ → Type 0
  JournalFits v k = queued_from 0 v.journal.items ≡ k

  abbrev pub JournalFollows : ℕ → Journaled O A R K → Journaled O A R K → Type 0
  JournalFollows s v w = SameOpening v w × JournalGoesOn s v.journal.items w.journal.items
