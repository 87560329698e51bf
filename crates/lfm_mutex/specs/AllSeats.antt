-- The seats of a mutex, taken together.
use Rattle.std.specs.Prelude.{◌≡◌, ℕ, List}
use Rattle.lfm_mutex.specs.declared.mutex.Mutex.{Mutex}
use Rattle.lfm_mutex.specs.declared.seat.Seat.{Seat}
use Rattle.lfm_mutex.specs.Belongs.{OfMutex}
use mathlib.Core.Option.{some}
use lib.ListN.{get_elem?}

-- each item of the list is a seat of the mutex
abbrev pub SeatsOf : {T : Type 0} → List (Seat T) → Mutex T → Type 0
SeatsOf seats m = (j : ℕ) (s : _) → get_elem? seats j ≡ some s → OfMutex s m
