-- How often a seat holds mutexes, and how many takes it has made, counted over all mutexes of its pool.
use Rattle.std.specs.Prelude.{◌≡◌, ◌⊎◌, ℕ, zero, suc, ◌+◌, ◌≤◌, List, [], ◌∷◌}
use Rattle.lfm_pool.specs.declared.pool.Pool.{Pool}
use Rattle.lfm_pool.specs.declared.pool.TableSeat.{TableSeat}
use Rattle.lfm_pool.specs.declared.view.Known.{Known}
use Rattle.lfm_pool.specs.Admissions.{most_posts}
use Rattle.lfm_pool.specs.Belongs.{IsMutex}
use Rattle.lfm_pool.specs.Seats.{state_of}

-- 1 if a seat with this depth holds the mutex, else 0
abbrev pub one_hold : ℕ → ℕ
one_hold zero = 0
one_hold (suc d) = 1

-- the number of mutexes that the seat holds, by what it knows of each
abbrev pub held_mutexes : List Known → ℕ
held_mutexes [] = 0
held_mutexes (k ∷ rest) = one_hold k.view.state.depth + held_mutexes rest

-- The seat has made at most this number of takes in each mutex, and no more than the pool allows. A number for a post is left
-- for each mutex that it holds, and for the acquisitions that it waits for.
pub record CountsTakes (takes waits : ℕ) (s : TableSeat) (p : Pool) : Type 0 where
  pub each : (m : ℕ) → IsMutex m p → (state_of s m).takes ≤ takes
  pub own : s.posts + held_mutexes s.place.me.0.parts + waits ≤ most_posts + p.mutexes + 1
  pub within : takes ≤ p.limits.budget

-- the seat has made as many takes, or as many posts, as a seat may
abbrev pub HasNoTake : ℕ → TableSeat → Pool → Type 0
HasNoTake takes s p = (takes ≡ p.limits.budget) ⊎ (most_posts ≤ s.posts)
