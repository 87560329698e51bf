-- The list of those that wait: the tickets are in order, the seats are the condvar's, and each is listed once.
use Rattle.std.specs.Prelude.{◌≡◌, ℕ, ◌+◌, ◌<◌, ◌≤◌, List, [], ◌∷◌, ◌==◌, if◌then◌else◌}
use Rattle.std.specs.Coded.{×_prop, Unit-prop, le_prop, Coded-set, coded_ℕ}
use Rattle.lfm_condvar.specs.declared.waiters.Waiter.{Waiter}

-- the tickets are those after k, in order and without gaps
abbrev pub GoOnFrom : ℕ → List Waiter → Type 0
GoOnFrom k [] = Unit {0}
GoOnFrom k (w ∷ ws) = (w.ticket ≡ k + 1) × GoOnFrom (k + 1) ws

pub GoOn-prop : (k : ℕ) (ws : List Waiter) → IsProp (GoOnFrom k ws)
GoOn-prop k [] = Unit-prop
GoOn-prop k (w ∷ ws) = ×_prop (Coded-set coded_ℕ w.ticket (k + 1)) (GoOn-prop (k + 1) ws)

-- how often the seat is in the list
abbrev pub times : ℕ → List Waiter → ℕ
times s [] = 0
times s (w ∷ ws) = (if w.seat == s then 1 else 0) + times s ws

-- each is one of the seats 1 to n
abbrev pub Among : ℕ → List Waiter → Type 0
Among n [] = Unit {0}
Among n (w ∷ ws) = (0 < w.seat) × ((w.seat ≤ n) × Among n ws)

pub Among-prop : (n : ℕ) (ws : List Waiter) → IsProp (Among n ws)
Among-prop n [] = Unit-prop
Among-prop n (w ∷ ws) = ×_prop le_prop (×_prop le_prop (Among-prop n ws))

-- the user seat s with ticket t
abbrev pub waiter : ℕ → ℕ → Waiter
waiter s t = record { seat = s; ticket = t }
