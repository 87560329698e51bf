-- What the laws of schedules say about the run of each mutex of a pool. N is the number of seats of the pool, and B its budget
-- of takes, which is 2^63.
use Rattle.std.specs.Prelude.{ℕ, List, ◌++◌}
use Rattle.atomic_table.specs.Table.{State}
use Rattle.lfm_protocol.specs.declared.limits.Limits.{Limits}
use Rattle.lfm_table.specs.declared.seat_view.Action.{Action}
use Rattle.lfm_mutex.specs.TableRuns.{EndsCalls, OvertakesOnce, PushesInRounds, RunsAsTheAbstractMutex, ServesInPushOrder, ServesInRounds}
use Rattle.lfm_pool.specs.declared.view.PoolView.{PoolView}
use Rattle.lfm_pool_laws.specs.Mutexes.{HasRunOf}

-- Refinement. The run of a mutex, read state by state, is a run of the abstract mutex from the state in which no seat holds,
-- asks or waits.
abbrev pub MutexesRunAsTheAbstractMutex : Type 0
MutexesRunAsTheAbstractMutex =
    (s : State ℕ PoolView) (m : ℕ) (l : Limits) (actions : List Action) → HasRunOf s m l actions
    → RunsAsTheAbstractMutex l actions

-- First come, first served, each once. From each earlier moment on, the records that were queued in the mutex and those
-- pushed since then are, in the same order, those that have left its queue since and those that are queued now. The stamps
-- of all pushes are 1, 2, 3 and so on, and the answers Held(Queued) are the records that have left the queue, or all of
-- these except the last.
abbrev pub MutexesServeInPushOrder : Type 0
MutexesServeInPushOrder =
    (s : State ℕ PoolView) (m : ℕ) (l : Limits) (actions : List Action) → HasRunOf s m l actions
    → ServesInPushOrder l actions

-- Overtaking. Take a record that was queued in the mutex at an earlier moment and has not left the queue. Since then seats
-- have become owner of the mutex, and have stopped being owner, at most once more than records have left the queue. No seat
-- has become owner twice, nor does its trail in this mutex since then record that it has.
abbrev pub MutexesAreOvertakenOnce : Type 0
MutexesAreOvertakenOnce =
    (s : State ℕ PoolView) (m : ℕ) (l : Limits) (early late : List Action) (k : ℕ) → HasRunOf s m l (early ++ late)
    → OvertakesOnce l early late k

-- Starvation freedom. Take a record that was queued in the mutex at an earlier moment, with k before it. It has left the
-- queue if the actions since then have N + 8k + 7 rounds that begin while no seat owns the mutex. If the owner of that
-- moment rested or released, and owners have begun only releases since, N + 10k + 9 fair rounds suffice, and as many more as
-- that owner needed. Whichever calls owners have begun, it has if the actions have 3N + 10k + 12 full rounds, one more for
-- each hold of that owner, and five more for each of these calls that isn't a release.
abbrev pub MutexesServeInRounds : Type 0
MutexesServeInRounds =
    (s : State ℕ PoolView) (m : ℕ) (l : Limits) (early late : List Action) (k : ℕ) → HasRunOf s m l (early ++ late)
    → ServesInRounds l early late k

-- Before the push. A call that at an earlier moment had counted a seat in the mutex, and had yet to push it, has pushed it
-- if the actions since then have 4p + 6 rounds, p being the number of records that were pushed since, or 4NB + 2 rounds.
abbrev pub MutexesPushInRounds : Type 0
MutexesPushInRounds =
    (s : State ℕ PoolView) (m : ℕ) (l : Limits) (early late : List Action) (t : ℕ) → HasRunOf s m l (early ++ late)
    → PushesInRounds l early late t

-- Lock freedom of each mutex. Since an earlier moment the calls in the mutex have made at most (5N + 5)(N + k) steps there,
-- k being the number of these calls that have ended since. The trails of the N seats in this mutex have grown by exactly
-- these steps and the loads for `owner`.
abbrev pub MutexesEndCalls : Type 0
MutexesEndCalls =
    (s : State ℕ PoolView) (m : ℕ) (l : Limits) (early late : List Action) → HasRunOf s m l (early ++ late)
    → EndsCalls l early late
