-- A step of a seat in one mutex of a pool is a step in no other mutex.
use Rattle.std.specs.Prelude.{◌≡◌, ◌≢◌, ◌⊎◌, ⊤, ℕ, ◌+◌, ◌<◌, List, [], true, false, length, slice_index}
use mathlib.Core.Option.{some}
use lib.ListN.{get_elem?}
use Rattle.atomic_table.specs.Table.{State, keeps, stepped}
use Rattle.lfm_protocol.specs.declared.limits.Limits.{Limits}
use Rattle.lfm_protocol.specs.declared.seats.SeatState.{SeatState}
use Rattle.lfm_laws.specs.table.Carried.{carries_value}
use Rattle.lfm_table.specs.declared.seat_view.Action.{Action}
use Rattle.lfm_table.specs.declared.seat_view.View.{View}
use Rattle.lfm_table.specs.Settled.{Became}
use Rattle.lfm_pool.specs.declared.accesses.PoolAccess.{PoolAccess}
use Rattle.lfm_pool.specs.declared.view.Note.{Note}
use Rattle.lfm_pool.specs.declared.view.PoolView.{PoolView}
use Rattle.lfm_pool.specs.Chain.{HasRecord}
use Rattle.lfm_pool.specs.Layout.{link_at, own_at, wake_at}
use Rattle.lfm_pool.specs.Posts.{HeldPosts}
use Rattle.lfm_pool.specs.Steps.{IsStepOf, RestsElsewhere}
use Rattle.lfm_pool.specs.Tables.{known, part, rests, with_part}
use Rattle.lfm_pool_laws.specs.Mutexes.{HasRunOf}

-- Mutex m, in a pool of this many mutexes, is the same in state s and in state t.
-- - words: none of its eight words differs
-- - counted, knows: each seat is there in both, and knows the same of the mutex
-- - links, wakes: the link word and the wake word of a seat that does not rest in the mutex are the same
-- - runs: a run of the mutex in s is one of it in t, if the pool keeps its rule in t
pub record IsSame (s t : State ℕ PoolView) (mutexes m : ℕ) : Type 0 where
  pub words : (k : ℕ) → k < 8 → slice_index t.words (own_at m k) ≡ slice_index s.words (own_at m k)
  pub counted : length t.views ≡ length s.views
  pub knows : (j : ℕ) (v : PoolView) → get_elem? s.views j ≡ some v → (w : PoolView) × (get_elem? t.views j ≡ some w) × (known w m ≡ known v m)
  pub links : (j : ℕ) (v : PoolView) → get_elem? s.views j ≡ some v → rests (part v m) ≡ false
      → slice_index t.words (link_at mutexes j) ≡ slice_index s.words (link_at mutexes j)
  pub wakes : (j : ℕ) (v : PoolView) → get_elem? s.views j ≡ some v → rests (part v m) ≡ false
      → slice_index t.words (wake_at mutexes j) ≡ slice_index s.words (wake_at mutexes j)
  pub runs : (l : Limits) (actions : List Action) → HasRunOf s m l actions → HeldPosts t → HasRunOf t m l actions

-- the views v and u of a seat differ only in what it knows of mutex m: by u, that is the view w and the note k
abbrev pub DifferIn : ℕ → View ⊤ → Note → PoolView → PoolView → Type 0
DifferIn m w k v u = u.parts ≡ (with_part v m w k).parts

-- The seat at place id, whose view is v and whose data in mutex m have become p by starts of calls, makes its step in this
-- mutex. Whatever number x the step writes into the word that it accesses, and whatever the seat knows of this mutex and of
-- its posts after it: each other mutex is the same after the step. The access is as at the table of the mutex. For the
-- handoff word x may be another number than the one that goes into the word of the table.
abbrev pub StepsAreInOneMutex : Type 0
StepsAreInOneMutex =
    (s : State ℕ PoolView) (h : HeldPosts s) (id m : ℕ) (v u : PoolView) (p : SeatState) (a : PoolAccess) (x : ℕ) (w : View ⊤) (k : Note)
    → m < h.held.mutexes → get_elem? s.views id ≡ some v → RestsElsewhere v m → Became (part v m).state (part v m).limits p → IsStepOf h.held.mutexes h.held.seats m (id + 1) p a
    → DifferIn m w k v u → (i : ℕ) → i < h.held.mutexes → i ≢ m → IsSame s (stepped s a.index x id [] u keeps) h.held.mutexes i

-- The seat with this view carries mutex m, or holds it, and the word at this index is one that no other seat touches then:
-- the carried word of the mutex, or the link word of the seat of a popped record.
abbrev pub IsCarriersWord : ℕ → ℕ → PoolView → ℕ → Type 0
IsCarriersWord mutexes m v index =
    (carries_value (part v m).state ≡ true)
    × ((index ≡ own_at m 4) ⊎ ((j : ℕ) × (index ≡ link_at mutexes j) × HasRecord (j + 1) (part v m).popped))

-- A write of x into such a word, after which the seat knows the same of mutex m, except its note, is no step of this mutex:
-- each run of the mutex before it is one after it, if the pool keeps its rule. And each other mutex is the same after it.
abbrev pub CarriersWriteInOneMutex : Type 0
CarriersWriteInOneMutex =
    (s : State ℕ PoolView) (h : HeldPosts s) (id m : ℕ) (v u : PoolView) (index x : ℕ) (k : Note)
    → m < h.held.mutexes → get_elem? s.views id ≡ some v → IsCarriersWord h.held.mutexes m v index → DifferIn m (part v m) k v u
    → ((i : ℕ) → i < h.held.mutexes → i ≢ m → IsSame s (stepped s index x id [] u keeps) h.held.mutexes i)
    × ((l : Limits) (actions : List Action) → HasRunOf s m l actions → HeldPosts (stepped s index x id [] u keeps) → HasRunOf (stepped s index x id [] u keeps) m l actions)
