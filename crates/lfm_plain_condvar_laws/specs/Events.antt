-- The events of a plain condition variable. Each happens in one hold of the list, but a return, which needs none.
use Rattle.std.specs.Prelude.{◌≡◌, ℕ, ◌+◌, List, [], ◌∷◌, ◌++◌}
use Rattle.lfm_plain_condvar_laws.specs.Waits.{Waiter, Waits, waiter}

pub data Event : Type 0 where
  -- this seat is added to the list
  enlists : ℕ → Event
  -- a wake takes out the oldest
  wakes : Event
  -- a wake finds nobody
  finds_none : Event
  -- the time of this seat is over, and it takes itself out
  leaves : ℕ → Event
  -- the wake-up of this seat has come, and its wait returns
  returns : ℕ → Event

-- One event leads from v to w. A seat is added again only after its wait has returned, but no law needs that
abbrev pub Happens : Event → Waits → Waits → Type 0
Happens (enlists s) v w = w ≡ record v { added = v.added + 1; listed = v.listed ++ waiter s (v.added + 1) ∷ [] }
Happens wakes v w = (x : Waiter) × (rest : List Waiter) × (v.listed ≡ x ∷ rest) × (w ≡ record v { listed = rest; owed = v.owed ++ x ∷ [] })
Happens finds_none v w = (v.listed ≡ []) × (w ≡ v)
Happens (leaves s) v w =
    (ahead : List Waiter) × (x : Waiter) × (behind : List Waiter) × (x.seat ≡ s) × (v.listed ≡ ahead ++ x ∷ behind)
    × (w ≡ record v { listed = ahead ++ behind; timed_out = v.timed_out ++ x ∷ [] })
Happens (returns s) v w =
    (ahead : List Waiter) × (x : Waiter) × (behind : List Waiter) × (x.seat ≡ s) × (v.owed ≡ ahead ++ x ∷ behind)
    × (w ≡ record v { owed = ahead ++ behind; woken = v.woken ++ x ∷ [] })

-- these events, one after another, lead from v to w
abbrev pub Run : List Event → Waits → Waits → Type 0
Run [] v w = v ≡ w
Run (e ∷ es) v w = (u : Waits) × Happens e v u × Run es u w
