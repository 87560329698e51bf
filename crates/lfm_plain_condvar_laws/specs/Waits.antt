-- The waits on a plain condition variable, as a model: who waits in the list, whose wake-up is on its way, and how waits
-- ended.
use Rattle.std.specs.Prelude.{◌≡◌, ◌⊎◌, ℕ, ◌+◌, ◌<◌, ◌≤◌, ◌==◌, if◌then◌else◌, List, [], ◌∷◌}

-- a wait of this seat, with its ticket
pub record Waiter : Type 0 where
  pub seat : ℕ
  pub ticket : ℕ

abbrev pub waiter : ℕ → ℕ → Waiter
waiter s t = record { seat = s; ticket = t }

pub record Waits : Type 0 where
  -- how many waits were added to the list
  pub added : ℕ
  -- those in the list, the oldest first
  pub listed : List Waiter
  -- those that a wake took out of it, and that have not returned yet, in the order of the wakes
  pub owed : List Waiter
  -- those that returned since a wake took them out, and since their time was over, in the order in which they returned
  pub woken : List Waiter
  pub timed_out : List Waiter

abbrev pub none_yet : Waits
none_yet = record { added = 0; listed = []; owed = []; woken = []; timed_out = [] }

abbrev pub IsIn : Waiter → List Waiter → Type 0
IsIn x [] = ⊥
IsIn x (y ∷ ys) = (x ≡ y) ⊎ IsIn x ys

-- how often the ticket is in the list
abbrev pub times : ℕ → List Waiter → ℕ
times t [] = 0
times t (x ∷ xs) = (if x.ticket == t then 1 else 0) + times t xs

-- how often it is anywhere
abbrev pub everywhere : ℕ → Waits → ℕ
everywhere t w = times t w.listed + times t w.owed + times t w.woken + times t w.timed_out

-- how many of these waits are of this seat
abbrev pub waits_of : ℕ → List Waiter → ℕ
waits_of k [] = 0
waits_of k (x ∷ xs) = (if x.seat == k then 1 else 0) + waits_of k xs

-- a wake took this waiter out of the list
abbrev pub WasTaken : Waiter → Waits → Type 0
WasTaken x w = IsIn x w.owed ⊎ IsIn x w.woken

-- the tickets rise from above k, to at most n
abbrev pub InOrder : ℕ → ℕ → List Waiter → Type 0
InOrder n k [] = k ≤ n
InOrder n k (x ∷ xs) = (k < x.ticket) × InOrder n x.ticket xs
