-- What belongs to a pool. The names by which contracts speak of a pool, its seats and its mutexes.
use Rattle.std.specs.Prelude.{◌≡◌, ℕ, ◌<◌, [], length}
use Rattle.lfm_pool.specs.declared.pool.Pool.{Pool}
use Rattle.lfm_pool.specs.declared.pool.TableSeat.{TableSeat}
use Rattle.lfm_pool.specs.Seats.{RestsInOthers, MayTryIn}
use Rattle.lfm_pool.specs.Tables.{part}

-- the seat is one of this pool
pub record OfPool (s : TableSeat) (p : Pool) : Type 0 where
  pub table : s.place.table_id ≡ p.table.shared.table_id
  pub parts : length s.place.me.0.parts ≡ p.mutexes

-- the number is that of a mutex of this pool
abbrev pub IsMutex : ℕ → Pool → Type 0
IsMutex m p = m < p.mutexes

-- both are the same seat, before and after a call
pub record SameSeat (s t : TableSeat) : Type 0 where
  pub table : t.place.table_id ≡ s.place.table_id
  pub id : t.place.id ≡ s.place.id
  pub number : t.number ≡ s.number
  pub parts : length t.place.me.0.parts ≡ length s.place.me.0.parts

-- a seat that has made no call: it has this number, rests in every mutex of the pool, holds none, and has made no step and no
-- post
pub record IsNew (number : ℕ) (p : Pool) (s : TableSeat) : Type 0 where
  pub number_is : s.number ≡ number
  pub may_try : (m : ℕ) → IsMutex m p → MayTryIn s p m
  pub no_step : (m : ℕ) → IsMutex m p → (part s.place.me.0 m).trail ≡ []
  pub no_post : s.posts ≡ 0
  pub elsewhere : (m : ℕ) → RestsInOthers s m
