-- What is written into the journal that a seat holds.
use Rattle.std.specs.Prelude.{◌≡◌, ℕ, ◌<◌, ◌≤◌, [], ◌∷◌, ◌++◌, length, Some}
use Rattle.lfm_model.specs.declared.journals.What.{What}
use Rattle.lfm_model.specs.Journals.{own, entry}
use Rattle.lfm_mutex.specs.declared.seat.Seat.{Seat}
use Rattle.lfm_mutex.specs.calls.Sight.{sight}
use Rattle.lfm_mutex.specs.Belongs.{Beside}
use Rattle.lfm_mutex.specs.calls.RunGoesOn.{RunGoesOnFrom}
use Rattle.lfm_mutex.specs.calls.Woken.{WakesNobody}
use Rattle.lfm_monitor.specs.declared.journaled.Journaled.{Journaled}
use Rattle.lfm_monitor.specs.Journaled.{SameOpening}

module _ {O A R : Type 0} {K : _} where
  -- an entry of this seat may be written
  abbrev pub MayWrite : ℕ → Journaled O A R K → Type 0
  MayWrite number v = (0 < number) × (number ≤ v.seats) × (length (own number v.journal.items) < v.share)

  -- this entry was written, and nothing else of the seat has changed
  abbrev pub Writes : What A → Seat (Journaled O A R K) → Seat (Journaled O A R K) → Type 0
  Writes what s t =
      (v w : Journaled O A R K) × ((sight s).value ≡ Some v) × (sight t ≡ record (sight s) { value = Some w }) × (w.journal.items ≡ v.journal.items ++ entry (sight s).number what ∷ [])
      × SameOpening v w × Beside s t × WakesNobody s t × RunGoesOnFrom s t
