-- The wake-up that a call holds back while it sends one waiter after another.
use Rattle.std.specs.Prelude.{◌≡◌, ℕ, ◌≤◌, List, [], ◌++◌, Option, Some, None}
use Rattle.lfm_mutex.specs.declared.seat.Seat.{Seat}
use Rattle.lfm_mutex.specs.calls.Sight.{sight}
use Rattle.lfm_mutex.specs.calls.WakeUps.{as_list, grants_of}
use Rattle.lfm_mutex.specs.calls.Woken.{WakesThese}

-- of two wake-ups, the one that is made when the second is held back
abbrev pub earlier_of : Option ℕ → Option ℕ → Option ℕ
earlier_of held None = None
earlier_of held (Some t) = held

-- the second of two wake-ups, if there is a second
abbrev pub later_of : Option ℕ → Option ℕ → Option ℕ
later_of held None = held
later_of held (Some t) = Some t

-- The steps from s to t granted the user mutex to the seats `woken`, in order, and then to the seat `wake_up`, if there is one.
-- The seats `woken` were woken, and no poll was made. The wake-up of the last seat is held back. If no wake-up is held back, no
-- seat was granted the mutex
pub record HoldsLastBack {T : Type 0} (seats : ℕ) (wake_up : Option ℕ) (s t : Seat T) : Type 0 where
  pub woken : List ℕ
  pub told : WakesThese woken s t
  pub granted : grants_of (sight t).trail ≡ grants_of (sight s).trail ++ (woken ++ as_list wake_up)
  pub last : wake_up ≡ None → woken ≡ []
  pub inside : (t : ℕ) → wake_up ≡ Some t → t ≤ seats
