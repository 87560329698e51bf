-- A mutex of a pool at one moment: the table that it would have by itself, the run of that table, and the state of the core
-- to which the run has led.
use Rattle.std.specs.Prelude.{◌≡◌, ℕ, ◌+◌, ◌*◌, ◌<◌, List, length, false, slice_index}
use mathlib.Core.Option.{some}
use lib.ListN.{get_elem?}
use Rattle.atomic_table.specs.Table.{State}
use Rattle.lfm_words.specs.Words.{handoff_of, handoff_word, is_posted_word, link_word, wake_word}
use Rattle.lfm_protocol.specs.declared.limits.Limits.{Limits}
use Rattle.lfm_protocol.specs.Core.{Core, limits}
use Rattle.lfm_protocol.specs.Seats.{seat, wake}
use Rattle.lfm_table.specs.declared.seat_view.Action.{Action}
use Rattle.lfm_pool.specs.declared.view.PoolView.{PoolView}
use Rattle.lfm_pool.specs.Layout.{own_at, wake_at}
use Rattle.lfm_pool.specs.Posts.{HeldPosts}
use Rattle.lfm_pool.specs.Tables.{IsKept, MutexTable, part, rests}

-- Mutex m, in this state of a pool of this many mutexes and seats, has the table t.
-- - counted, sized: the number of views of the table, and of its words
-- - views: what a seat of the pool knows of the mutex is its view at the table
-- - count, owner, push: these words of the mutex are those of the table
-- - posted, poster: a handoff is posted in the handoff word of the mutex exactly if one is posted at the table, by the same
--   seat. The two words have different numbers for it: see `named` in `lfm_pool`.
-- - wakes: the wake word of a seat that does not rest in the mutex is that of the table
pub record HasTable (s : State ℕ PoolView) (mutexes seats m : ℕ) (t : MutexTable) : Type 0 where
  pub counted : length t.views ≡ length s.views
  pub sized : length t.words ≡ 4 + 2 * seats
  pub views : (j : ℕ) (v : PoolView) → get_elem? s.views j ≡ some v → get_elem? t.views j ≡ some (part v m)
  pub count : slice_index s.words (own_at m 0) ≡ slice_index t.words 0
  pub owner : slice_index s.words (own_at m 1) ≡ slice_index t.words 1
  pub push : slice_index s.words (own_at m 3) ≡ slice_index t.words 3
  pub posted : is_posted_word (slice_index s.words (own_at m 2)) ≡ is_posted_word (slice_index t.words 2)
  pub poster : (handoff_of (slice_index s.words (own_at m 2))).seat ≡ (handoff_of (slice_index t.words 2)).seat
  pub wakes : (j : ℕ) (v : PoolView) → get_elem? s.views j ≡ some v → rests (part v m) ≡ false
      → slice_index s.words (wake_at mutexes j) ≡ slice_index t.words (4 + seats + j)

-- the table of a mutex keeps its rule, was opened with these limits, and has made these actions since
abbrev pub HoldsAfter : Limits → List Action → MutexTable → Type 0
HoldsAfter l actions t = (k : IsKept t) × (k.opened ≡ l) × (k.actions ≡ actions)

-- The pool keeps its rule. Mutex m has a table that was opened with these limits, and these actions are the run of the table
-- from its opening up to now.
pub record HasRunOf (s : State ℕ PoolView) (m : ℕ) (l : Limits) (actions : List Action) : Type 0 where
  pub rule : HeldPosts s
  pub inside : m < rule.held.mutexes
  pub table : MutexTable
  pub has : HasTable s rule.held.mutexes rule.held.seats m table
  pub holds : HoldsAfter l actions table

-- In this state of a pool of this many mutexes, mutex m is this state of the core.
-- - count, owner, push: these words of the mutex are those of the core
-- - posted, poster: a handoff is posted in its handoff word exactly if one is posted in the core, by the same seat
-- - seats_are, limits_are: the data and the limits of each seat in the mutex are those of the core
-- - wakes: the wake word of a seat that does not rest in the mutex is that of the core
pub record MutexIs (s : State ℕ PoolView) (mutexes m : ℕ) (c : Core) : Type 0 where
  pub count : slice_index s.words (own_at m 0) ≡ c.count
  pub owner : slice_index s.words (own_at m 1) ≡ c.owner
  pub push : slice_index s.words (own_at m 3) ≡ link_word c.push
  pub posted : is_posted_word (slice_index s.words (own_at m 2)) ≡ is_posted_word (handoff_word c.handoff)
  pub poster : (handoff_of (slice_index s.words (own_at m 2))).seat ≡ c.handoff.seat
  pub seats_are : (j : ℕ) (v : PoolView) → get_elem? s.views j ≡ some v → seat c.seats (j + 1) ≡ (part v m).state
  pub limits_are : (j : ℕ) (v : PoolView) → get_elem? s.views j ≡ some v → (part v m).limits ≡ limits c
  pub wakes : (j : ℕ) (v : PoolView) → get_elem? s.views j ≡ some v → rests (part v m) ≡ false
      → slice_index s.words (wake_at mutexes j) ≡ wake_word (wake c.wakes (j + 1))
