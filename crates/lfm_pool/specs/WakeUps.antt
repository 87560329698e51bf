-- For which seats of a pool wake-ups are. A contract sees a wake-up as the record that was granted.
use Rattle.std.specs.Prelude.{⊤, ℕ, ◌≤◌, List, [], ◌∷◌, Option, Some, None}
use Rattle.lfm_words.specs.declared.pop_lists.Record.{Record}
use Rattle.lfm_pool.specs.declared.finish_ask.Finished.{Finished}
use Rattle.lfm_pool.specs.declared.pool.Pool.{Pool}
use Rattle.lfm_pool.specs.declared.unlock.Released.{Released}
use Rattle.lfm_pool.specs.declared.unlock.Unlocking.{Unlocking}

-- the granted seat is one of this pool
abbrev pub IsForSeatOf : Record → Pool → Type 0
IsForSeatOf r p = r.seat ≤ p.limits.seats

-- a wake-up is for a seat of this pool, if there is one
abbrev pub WakesSeatOf : Option Record → Pool → Type 0
WakesSeatOf (Some r) p = IsForSeatOf r p
WakesSeatOf None p = ⊤

-- the seat that is to be woken, if there is a wake-up
abbrev pub seats_to_wake : Option Record → List ℕ
seats_to_wake (Some r) = r.seat ∷ []
seats_to_wake None = []

-- the record that a call has granted, by its answer
abbrev pub granted_by_finish : Finished → Option Record
granted_by_finish (Finished.Granted r) = Some r
granted_by_finish _ = None

abbrev pub granted_by_start : Unlocking → Option Record
granted_by_start (Unlocking.Granted r) = Some r
granted_by_start _ = None

abbrev pub granted_by_release : Released → Option Record
granted_by_release (Released.Granted r) = Some r
granted_by_release _ = None
