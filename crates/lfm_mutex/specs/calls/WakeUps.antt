-- The seats to which the steps of a trail granted the mutex, and the wake-up that a call returns for its grant.
use Rattle.std.specs.Prelude.{◌≡◌, ℕ, ◌<◌, ◌≤◌, List, [], ◌∷◌, ◌++◌, Option, Some, None, Bool, true, false}
use Rattle.lfm_table.specs.declared.seat_view.Seen.{Seen}
use Rattle.lfm_table.specs.Grants.{granted_at}
use Rattle.lfm_mutex.specs.calls.Runs.{Errand, trying, receiving, nothing}

abbrev pub as_list : Option ℕ → List ℕ
as_list (Some t) = t ∷ []
as_list None = []

-- the first of two if it is there, otherwise the second
abbrev pub first_of : Option ℕ → Option ℕ → Option ℕ
first_of (Some t) then = Some t
first_of None then = then

-- the seats to which these steps granted the mutex, in the order of the grants
abbrev pub grants_of : List Seen → List ℕ
grants_of [] = []
grants_of (step ∷ steps) = as_list (granted_at step.point) ++ grants_of steps

-- The steps from one trail to the other stored a grant exactly if there is a wake-up. The wake-up is for the seat that was
-- granted the mutex, one of 1 to `seats`.
pub record Wakes (seats : ℕ) (wake_up : Option ℕ) (before after : List Seen) : Type 0 where
  pub granted : grants_of after ≡ grants_of before ++ as_list wake_up
  pub above : (t : ℕ) → wake_up ≡ Some t → 0 < t
  pub inside : (t : ℕ) → wake_up ≡ Some t → t ≤ seats

-- a call of this errand may grant another seat the mutex
abbrev pub may_grant : Errand → Bool
may_grant trying = false
may_grant receiving = false
may_grant nothing = false
may_grant _ = true
