-- How many times a seat holds a mutex of its pool when no call of it is open there, and what changes that.
use Rattle.std.specs.Prelude.{◌≡◌, ◌≢◌, ⊤, ℕ, ◌-◌, ◌<◌, ◌≤◌, List, [], ◌∷◌}
use Rattle.lfm_protocol.specs.Limits.{max_depth}
use Rattle.lfm_protocol.specs.declared.limits.Limits.{Limits}
use Rattle.lfm_protocol.specs.declared.points.Point.TheVariants.{Rest, LockCountAdd, LockOwnerLoad, LockCountSubtract, TryCountExchange, TryOwnerLoad}
use Rattle.lfm_table.specs.declared.seat_view.Seen.{Seen}
use Rattle.lfm_table.specs.declared.seat_view.View.{View}
use Rattle.lfm_table.specs.Actions.{seen}
use Rattle.lfm_pool.specs.declared.pool.Pool.{Pool}
use Rattle.lfm_pool.specs.declared.pool.TableSeat.{TableSeat}
use Rattle.lfm_pool.specs.declared.view.Note.{Note}
use Rattle.lfm_pool.specs.Chain.{deep}
use Rattle.lfm_pool.specs.FastPaths.{KnowsMoreOf}
use Rattle.lfm_pool.specs.Moves.{Made}
use Rattle.lfm_pool.specs.Seats.{state_of}
use Rattle.lfm_pool.specs.Steps.{Sits}
use Rattle.lfm_pool.specs.Tables.{note, part}

-- A seat at rest in mutex m, by its view and its note, holds the mutex this many times, or not at all if that is 0. If it
-- holds the mutex, all popped records are in the chain, and the carried word has the seat of the oldest, and in its upper
-- bits the holds beyond the first. Since its last step there the seat may have given up holds, which is no step.
pub record HasDepth (number id : ℕ) (l : Limits) (v : View ⊤) (note : Note) (depth : ℕ) : Type 0 where
  pub sits : Sits number id l v.state v
  pub now : Sits number id l (record v.state { depth = depth }) v
  pub rests : v.state.point ≡ Rest
  pub most : depth ≤ max_depth
  pub noted : 0 < depth → note ≡ deep (depth - 1) v.popped

abbrev pub HasDepthIn : TableSeat → Pool → ℕ → ℕ → Type 0
HasDepthIn s p m depth = HasDepth s.number s.place.id p.limits (part s.place.me.0 m) (note s.place.me.0 m) depth

-- a seat with this view has loaded n from the owner word: that is its own number exactly if it holds the mutex
abbrev pub TellsOwner : View ⊤ → ℕ → Type 0
TellsOwner v n = (n ≡ v.number → 0 < v.state.depth) × (0 < v.state.depth → n ≡ v.number)

-- Deeper holds

-- The steps of a try_lock of the seat with this number, which holds the mutex: the count is not 0, since the seat is
-- counted, and the owner is the seat.
abbrev pub TryAgainSteps : ℕ → List Seen → Type 0
TryAgainSteps number new = (count : ℕ) × (count ≢ 0) × (new ≡ seen TryCountExchange count ∷ seen TryOwnerLoad number ∷ [])

-- the steps of such a lock, which adds itself to the count, and takes that back once it has found that it is the owner
abbrev pub AskAgainSteps : ℕ → List Seen → Type 0
AskAgainSteps number new =
    (count last : ℕ) × (count ≢ 0) × (new ≡ seen LockCountAdd count ∷ seen LockOwnerLoad number ∷ seen LockCountSubtract last ∷ [])

-- from s to t the seat has made such steps in mutex m, and holds it this many times then
abbrev pub DeepensBy : (ℕ → List Seen → Type 0) → TableSeat → TableSeat → Pool → ℕ → ℕ → Type 0
DeepensBy steps s t p m depth =
    KnowsMoreOf m
    (λ w k.
    ((new : List Seen) × steps s.number new × Made new (record (state_of s m) { depth = depth }) (part s.place.me.0 m) w)
    × HasDepth s.number s.place.id p.limits w k depth)
    s.place.me t.place.me

-- from s to t the seat has given up a hold of mutex m without a step, and holds it this many times then
abbrev pub GivesUpIn : TableSeat → TableSeat → Pool → ℕ → ℕ → Type 0
GivesUpIn s t p m depth =
    KnowsMoreOf m (λ w k. (w ≡ part s.place.me.0 m) × HasDepth s.number s.place.id p.limits w k depth) s.place.me t.place.me
