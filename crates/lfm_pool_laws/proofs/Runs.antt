-- The run of each mutex of a pool is that of its table: so the laws of such runs hold of it.
use Rattle.std.proofs.Common.{◌≡◌, ℕ, ◌+◌, ◌<◌, List, ◌++◌, refl, subst}
use mathlib.Core.Option.{some}
use lib.ListN.{get_elem?}
use Rattle.atomic_table.specs.Table.{State}
use Rattle.lfm_protocol.specs.declared.limits.Limits.{Limits}
use Rattle.lfm_protocol.specs.Step.{start}
use Rattle.lfm_table.specs.declared.seat_view.Action.{Action}
use Rattle.lfm_table.specs.Actions.{KnowsRun, part_of}
use Rattle.lfm_mutex.proofs.TableRuns.{ends_calls, only_seats, overtakes_once, pushes_in_rounds, runs_as_the_abstract_mutex, serves_in_push_order, serves_in_rounds}
use Rattle.lfm_pool.specs.declared.view.PoolView.{PoolView}
use Rattle.lfm_pool.specs.Posts.{HeldPosts}
use Rattle.lfm_pool.specs.Tables.{any_fits, any_follows, part}
use Rattle.lfm_pool_laws.specs.Mutexes.{HasRunOf}
use Rattle.lfm_pool_laws.specs.RunLaws.{MutexesAreOvertakenOnce, MutexesEndCalls, MutexesPushInRounds, MutexesRunAsTheAbstractMutex, MutexesServeInPushOrder, MutexesServeInRounds}
use Rattle.lfm_pool_laws.specs.StateLaws.{MutexesHaveARun}
use Rattle.lfm_pool_laws.proofs.Tables.{as_many, few, has_table, mutex_is}

run_of : (s : State ℕ PoolView) (h : HeldPosts s) (m : ℕ) → m < h.held.mutexes → (l : Limits) × (actions : List Action) × HasRunOf s m l actions
run_of s h m less =
    let k = h.held.kept m less in
    (k.opened, k.actions, record { rule = h; inside = less; table = h.held.tables m; has = has_table s h m less; holds = (k, refl, refl) })

-- what the seat at this place has recorded in the mutex, and what it knows of the run
abbrev Recorded : ℕ → PoolView → ℕ → Limits → List Action → Type 0
Recorded j v m l actions = ((part v m).trail ≡ part_of (start l) (j + 1) actions) × KnowsRun l actions (j + 1) (part v m).actions (part v m).trail

recorded : (s : State ℕ PoolView) (m : ℕ) (l : Limits) (actions : List Action) (r : HasRunOf s m l actions) (j : ℕ) (v : PoolView) → get_elem? s.views j ≡ some v → Recorded j v m l actions
recorded s m l actions r j v at =
    let run = r.holds.0.run in
    let there = r.has.views j v at in
    subst (λ (t : Limits × List Action). Recorded j v m t.0 t.1) (λ i. (r.holds.1 i, r.holds.2 i)) (run.trails j (part v m) there, run.known j (part v m) there)

pub mutexes_have_a_run : MutexesHaveARun
mutexes_have_a_run = (run_of, λ s m l actions r. (as_many s m l actions r, mutex_is s m l actions r, recorded s m l actions r))

pub mutexes_run_as_the_abstract_mutex : MutexesRunAsTheAbstractMutex
mutexes_run_as_the_abstract_mutex s m l actions r = runs_as_the_abstract_mutex l (few s m l actions r) actions

pub mutexes_serve_in_push_order : MutexesServeInPushOrder
mutexes_serve_in_push_order s m l actions r = serves_in_push_order l (few s m l actions r) actions

pub mutexes_are_overtaken_once : MutexesAreOvertakenOnce
mutexes_are_overtaken_once s m l early late k r = overtakes_once l (few s m l (early ++ late) r) early late k

pub mutexes_serve_in_rounds : MutexesServeInRounds
mutexes_serve_in_rounds s m l early late k r = serves_in_rounds l (few s m l (early ++ late) r) early late k

pub mutexes_push_in_rounds : MutexesPushInRounds
mutexes_push_in_rounds s m l early late t r = pushes_in_rounds l (few s m l (early ++ late) r) early late t

pub mutexes_end_calls : MutexesEndCalls
mutexes_end_calls s m l early late r =
    ends_calls l (few s m l (early ++ late) r) early late (only_seats any_follows any_fits r.table l early late r.holds.0 r.holds.1 r.holds.2)
