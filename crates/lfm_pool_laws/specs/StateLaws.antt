-- What is true of each mutex of a pool at every moment.
use Rattle.std.specs.Prelude.{◌≡◌, ℕ, ◌+◌, ◌*◌, ◌^◌, ◌<◌, ◌≤◌, List, true, false, slice_index}
use mathlib.Core.Option.{some}
use lib.ListN.{get_elem?}
use Rattle.atomic_table.specs.Table.{State}
use Rattle.lfm_model.specs.Abstract.{AbstractPlace}
use Rattle.lfm_words.specs.Words.{is_posted_word}
use Rattle.lfm_protocol.specs.declared.answers.Call.TheVariants.{Receive, TryLock, Unlock}
use Rattle.lfm_protocol.specs.declared.limits.Limits.{Limits}
use Rattle.lfm_protocol.specs.Seats.{seat}
use Rattle.lfm_protocol.specs.Step.{begin, start}
use Rattle.lfm_laws.specs.laws.Laws.{IsReached}
use Rattle.lfm_laws.specs.laws.Lawful.{Lawful}
use Rattle.lfm_laws.specs.laws.Progress.{changes_beside}
use Rattle.lfm_laws.specs.laws.Reading.{Claims}
use Rattle.lfm_laws.specs.laws.Schedules.{Event, is_call, steps_of_call}
use Rattle.lfm_laws.specs.laws.Watched.{Watcher}
use Rattle.lfm_laws.specs.steady.Steady.{NumbersFit, Steady}
use Rattle.lfm_table.specs.declared.seat_view.Action.{Action}
use Rattle.lfm_table.specs.Actions.{KnowsRun, part_of}
use Rattle.lfm_mutex.specs.TableRuns.{state_after}
use Rattle.lfm_pool.specs.declared.view.PoolView.{PoolView}
use Rattle.lfm_pool.specs.Layout.{own_at}
use Rattle.lfm_pool.specs.Posts.{HeldPosts}
use Rattle.lfm_pool.specs.Tables.{part}
use Rattle.lfm_pool_laws.specs.Mutexes.{HasRunOf, MutexIs}

-- Each mutex has a run at every moment, with as many seats as the pool. The run has led from the start of the core to what
-- `MutexIs` names: the count, owner and push words of the mutex, the seat of its post, the wake words of seats that do not rest
-- there, and the data of its seats. The trail of a seat in the mutex is its part of the run, and the seat knows the run up to
-- its own last step in the mutex.
abbrev pub MutexesHaveARun : Type 0
MutexesHaveARun =
    ((s : State ℕ PoolView) (h : HeldPosts s) (m : ℕ) → m < h.held.mutexes → (l : Limits) × (actions : List Action) × HasRunOf s m l actions)
    × ((s : State ℕ PoolView) (m : ℕ) (l : Limits) (actions : List Action) (r : HasRunOf s m l actions)
    → (l.seats ≡ r.rule.held.seats) × MutexIs s r.rule.held.mutexes m (state_after l actions)
    × ((j : ℕ) (v : PoolView) → get_elem? s.views j ≡ some v
    → ((part v m).trail ≡ part_of (start l) (j + 1) actions) × KnowsRun l actions (j + 1) (part v m).actions (part v m).trail))

-- The run of a mutex leads to a state that a schedule of the core reaches, and so to a steady and lawful one. However many
-- actions it has, its stamp and its posts fit their words, also after the next step, and so do the numbers by which the seats
-- count their posts in all mutexes.
abbrev pub MutexesAreSteady : Type 0
MutexesAreSteady =
    (s : State ℕ PoolView) (m : ℕ) (l : Limits) (actions : List Action) → HasRunOf s m l actions
    → IsReached (state_after l actions) × NumbersFit (state_after l actions)
    × ((j : ℕ) (v : PoolView) → get_elem? s.views j ≡ some v → v.posts + 1 < 2 ^ 48) × Steady (state_after l actions) × Lawful (state_after l actions)

-- no two seats of a pool own one mutex
abbrev pub MutexesHaveOneOwner : Type 0
MutexesHaveOneOwner =
    (s : State ℕ PoolView) (h : HeldPosts s) (m i j : ℕ) (v w : PoolView) → m < h.held.mutexes → get_elem? s.views i ≡ some v → get_elem? s.views j ≡ some w
    → 0 < (part v m).state.depth → 0 < (part w m).state.depth → i ≡ j

-- if the count of a mutex is above 0, exactly one owner, grant, posted handoff or call of that mutex has the responsibility
abbrev pub OneHasTheResponsibilityForEach : Type 0
OneHasTheResponsibilityForEach =
    (s : State ℕ PoolView) (m : ℕ) (l : Limits) (actions : List Action) → HasRunOf s m l actions → 0 < slice_index s.words (own_at m 0)
    → (p : AbstractPlace) × Claims (state_after l actions) p × ((q : AbstractPlace) → Claims (state_after l actions) q → q ≡ p)

-- if a handoff is posted in the handoff word of a mutex, some call that is open in this mutex watches it
abbrev pub PostsOfMutexesAreWatched : Type 0
PostsOfMutexesAreWatched =
    (s : State ℕ PoolView) (m : ℕ) (l : Limits) (actions : List Action) → HasRunOf s m l actions
    → is_posted_word (slice_index s.words (own_at m 2)) ≡ true → Watcher (state_after l actions)

-- Bounds of the calls in a mutex, whatever its other seats do in between, N being the number of seats of the pool: an unlock
-- that begins now makes at most N + 7 steps, a try_lock 6 and a receive 3. A call that is open now, of whichever kind, makes
-- at most N + 9 more, and two more for each time that another seat changes the push word of this mutex before the call ends.
abbrev pub CallsInMutexesAreBounded : Type 0
CallsInMutexesAreBounded =
    (s : State ℕ PoolView) (m : ℕ) (l : Limits) (actions : List Action) → HasRunOf s m l actions → (t : ℕ) (events : List Event)
    → (is_call (seat (state_after l actions).seats t).point ≡ false
    → (steps_of_call (begin (state_after l actions) t Unlock).core t events ≤ l.seats + 7)
    × (steps_of_call (begin (state_after l actions) t TryLock).core t events ≤ 6)
    × (steps_of_call (begin (state_after l actions) t Receive).core t events ≤ 3))
    × (steps_of_call (state_after l actions) t events ≤ l.seats + 9 + 2 * changes_beside (state_after l actions) t events)
