-- Which threads are owed a wake-up after their parkers were notified.
use Rattle.std.specs.Prelude.{◌≡◌, ◌≤◌, ℕ, List, [], ◌∷◌, ◌++◌}
use Rattle.lfm_plain_condvar.specs.declared.parkers.parked.Notified.{Notified}
use Rattle.lfm_plain_condvar.specs.declared.parkers.parked.ParkedRange.{ParkedRange}

-- the parker whose thread is owed a wake-up, if it is
abbrev pub owed_after : Notified → List ℕ
owed_after Notified.GoesOn = []
owed_after (Notified.Parked t) = t.number ∷ []

-- a wake-up, if one is owed, is owed to the thread of parker k
abbrev pub IsOwedTo : ℕ → Notified → Type 0
IsOwedTo k Notified.GoesOn = Unit {0}
IsOwedTo k (Notified.Parked t) = t.number ≡ k

-- the second range has all that the first has
abbrev pub Widens : ParkedRange → ParkedRange → Type 0
Widens r s = (s.first ≤ r.first) × (r.last ≤ s.last)

-- the range has each of these parkers
abbrev pub HasAll : ParkedRange → List ℕ → Type 0
HasAll r [] = Unit {0}
HasAll r (k ∷ ks) = (r.first ≤ k) × (k ≤ r.last) × HasAll r ks

-- The range r grew to s, while the seat's list of the parkers that it found parked grew from `before` to `after`: s also has
-- those that came to the list
abbrev pub Gathers : ParkedRange → ParkedRange → List ℕ → List ℕ → Type 0
Gathers r s before after = Widens r s × ((new : List ℕ) × (after ≡ before ++ new) × HasAll s new)
