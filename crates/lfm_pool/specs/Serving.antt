-- What the contracts say of a seat that serves the oldest queued seat of a mutex.
use Rattle.std.specs.Prelude.{◌≡◌, ℕ, List, ◌∷◌}
use Rattle.lfm_words.specs.declared.pop_lists.Record.{Record}
use Rattle.lfm_words.specs.declared.wakes.Wake.TheVariants.{Grant}
use Rattle.lfm_words.specs.Words.{wake_word}
use Rattle.lfm_protocol.specs.declared.points.Carrier.{Carrier}
use Rattle.lfm_protocol.specs.declared.points.Point.TheVariants.{GrantWakeStore}
use Rattle.lfm_pool.specs.declared.pool.Pool.{Pool}
use Rattle.lfm_pool.specs.declared.pool.TableSeat.{TableSeat}
use Rattle.lfm_pool.specs.FastPaths.{KnowsMoreOf}
use Rattle.lfm_pool.specs.Seats.{popped_of, state_of}
use Rattle.lfm_pool.specs.Steps.{Sits, Stepped}
use Rattle.lfm_pool.specs.Tables.{part}

-- the record is the oldest of these
abbrev pub IsOldest : Record → List Record → Type 0
IsOldest r popped = (rest : List Record) × (popped ≡ r ∷ rest)

-- a call of the seat in mutex m grants the oldest popped record next
abbrev pub ServesOldest : TableSeat → ℕ → Type 0
ServesOldest s m =
    (carrier : Carrier) × (r : Record) × ((state_of s m).point ≡ GrantWakeStore carrier r) × IsOldest r (popped_of s m)

-- from s to t the seat has granted this record in mutex m, by the next step of its call
abbrev pub GrantsIn : TableSeat → TableSeat → Pool → ℕ → Record → Type 0
GrantsIn s t p m r =
    KnowsMoreOf m
    (λ w k. Stepped s.number (state_of s m) (part s.place.me.0 m) (wake_word (Grant r.stamp)) w × Sits s.number s.place.id p.limits w.state w)
    s.place.me t.place.me
