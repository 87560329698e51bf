-- What is true of one seat in the mutexes of its pool.
use Rattle.std.specs.Prelude.{◌≡◌, ◌≢◌, ℕ, ◌+◌, ◌<◌, List, slice_index}
use mathlib.Core.Option.{some}
use lib.ListN.{get_elem?}
use Rattle.atomic_table.specs.Table.{State}
use Rattle.lfm_model.specs.Abstract.{AbstractPlace, carried, free, owner, passed, posted}
use Rattle.lfm_words.specs.declared.wakes.Wake.TheVariants.{Quiet}
use Rattle.lfm_words.specs.Words.{wake_word}
use Rattle.lfm_protocol.specs.declared.limits.Limits.{Limits}
use Rattle.lfm_protocol.specs.declared.points.Point.TheVariants.{Rest}
use Rattle.lfm_laws.specs.laws.Reading.{Claims}
use Rattle.lfm_laws.specs.laws.Watched.{IsQueued}
use Rattle.lfm_table.specs.declared.seat_view.Action.{Action}
use Rattle.lfm_mutex.specs.TableRuns.{state_after}
use Rattle.lfm_pool.specs.declared.view.PoolView.{PoolView}
use Rattle.lfm_pool.specs.Layout.{wake_at}
use Rattle.lfm_pool.specs.Posts.{HeldPosts}
use Rattle.lfm_pool.specs.SeatWords.{Sleeps}
use Rattle.lfm_pool.specs.Tables.{part}
use Rattle.lfm_pool_laws.specs.Mutexes.{HasRunOf}

-- A seat that is in a call in mutex m, sleeps there or is in its queue rests in each other mutex n. So it sleeps in at most
-- one, and is in the queue of at most one.
abbrev pub SeatsActInOneMutex : Type 0
SeatsActInOneMutex =
    (s : State ℕ PoolView) (h : HeldPosts s) (m n j : ℕ) (v : PoolView) → m < h.held.mutexes → n < h.held.mutexes → get_elem? s.views j ≡ some v
    → (m ≢ n → (part v m).state.point ≢ Rest → (part v n).state.point ≡ Rest)
    × (m ≢ n → (l : Limits) (actions : List Action) → HasRunOf s m l actions → IsQueued (state_after l actions) (j + 1) → (part v n).state.point ≡ Rest)
    × (Sleeps (part v m).state → Sleeps (part v n).state → m ≡ n)

-- the seat rests in each mutex of a pool of this many mutexes
abbrev pub RestsInAll : ℕ → PoolView → Type 0
RestsInAll mutexes v = (m : ℕ) → m < mutexes → (part v m).state.point ≡ Rest

-- the seat that a place of the responsibility names, 0 if it names none
abbrev pub named_seat : AbstractPlace → ℕ
named_seat free = 0
named_seat (owner s) = s
named_seat (passed s) = s
named_seat posted = 0
named_seat (carried s how) = s

-- The wake word of a seat that rests in all mutexes is QUIET, and the seat is in the queue of none. The responsibility for a
-- mutex that the seat does not hold is not with this seat: no claim names it.
abbrev pub RestingSeatsAreQuiet : Type 0
RestingSeatsAreQuiet =
    (s : State ℕ PoolView) (h : HeldPosts s) (j : ℕ) (v : PoolView) → get_elem? s.views j ≡ some v → RestsInAll h.held.mutexes v
    → (slice_index s.words (wake_at h.held.mutexes j) ≡ wake_word Quiet)
    × ((m : ℕ) (l : Limits) (actions : List Action) → HasRunOf s m l actions
    → (IsQueued (state_after l actions) (j + 1) → ⊥)
    × ((part v m).state.depth ≡ 0 → (q : AbstractPlace) → Claims (state_after l actions) q → named_seat q ≢ j + 1))
