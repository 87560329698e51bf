-- Lists of waiters: their tickets, and how a list divides into those that stay and those that leave.
use Rattle.std.specs.Prelude.{◌≡◌, ◌⊎◌, ℕ, ◌+◌, ◌<◌, ◌≤◌, List, [], ◌∷◌}
use Rattle.std.specs.Coded.{×_prop, le_prop}
use Rattle.lfm_plain_condvar.specs.declared.waiters.Waiter.{Waiter}

-- the tickets rise from above k, to at most n
abbrev pub InOrder : ℕ → ℕ → List Waiter → Type 0
InOrder n k [] = k ≤ n
InOrder n k (w ∷ ws) = (k < w.ticket) × InOrder n w.ticket ws

pub InOrder-prop : (n k : ℕ) (ws : List Waiter) → IsProp (InOrder n k ws)
InOrder-prop n k [] = le_prop
InOrder-prop n k (w ∷ ws) = ×_prop le_prop (InOrder-prop n w.ticket ws)

-- the tickets are those after k, in order and without gaps
abbrev pub GoOnFrom : ℕ → List Waiter → Type 0
GoOnFrom k [] = Unit {0}
GoOnFrom k (w ∷ ws) = (w.ticket ≡ k + 1) × GoOnFrom (k + 1) ws

-- the waiter is in the list
abbrev pub IsIn : Waiter → List Waiter → Type 0
IsIn x [] = ⊥
IsIn x (w ∷ ws) = (x ≡ w) ⊎ IsIn x ws

-- the number of the seat of each waiter has this property
abbrev pub AllBy : (ℕ → Type 0) → List Waiter → Type 0
AllBy by [] = Unit {0}
AllBy by (w ∷ ws) = by w.waker.number × AllBy by ws

-- Each waiter of the list either stays or leaves. Both those that stay and those that leave are in the order of the list
abbrev pub Divides : List Waiter → List Waiter → List Waiter → Type 0
Divides [] stay leave = (stay ≡ []) × (leave ≡ [])
Divides (w ∷ ws) stay leave =
    ((rest : List Waiter) × (stay ≡ w ∷ rest) × Divides ws rest leave) ⊎ ((rest : List Waiter) × (leave ≡ w ∷ rest) × Divides ws stay rest)
