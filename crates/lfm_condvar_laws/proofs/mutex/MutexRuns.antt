-- Each event on condvars changes the user mutex as some starts of calls and single steps of the mutex do.
use Rattle.std.proofs.Common.{◌≡◌, ℕ, Bool, true, false, ◌&&◌, List, [], ◌∷◌, ◌++◌, nat_eq, refl, sym, ap, ◌∙◌, arith, if◌then◌else◌}
use Rattle.lfm_protocol.specs.declared.answers.Call.TheVariants.{StartWait, SendLock, Receive}
use Rattle.lfm_protocol.specs.declared.points.Point.{Point}
use Rattle.lfm_protocol.specs.declared.points.Point.TheVariants.{Rest, Asleep}
use Rattle.lfm_protocol.specs.Core.{Core}
use Rattle.lfm_protocol.specs.Turns.{is_open}
use Rattle.lfm_laws.specs.laws.Laws.{IsReached}
use Rattle.lfm_laws.specs.laws.Schedules as Schedules
use Rattle.lfm_laws.specs.laws.Schedules.{Event, is_call}
use Rattle.lfm_protocol.specs.Seats.{is_seat}
use Rattle.lfm_protocol.specs.Step.{begin}
use Rattle.lfm_laws.proofs.lawful.runs.LimitsKept.{limits_stay}
use Rattle.lfm_laws.proofs.steady.Start.{few_seats, small_budget}
use Rattle.lfm_condvar_laws.specs.Condvars.{Waiter, Stage, outside, locking_to_wait, starting, receiving, locking_to_wake, claiming, sending, unlocking, CondvarCore, point_of, is_listed, put_condvar, put_holder, condvar_start}
use Rattle.lfm_condvar_laws.specs.Events.{CondvarEvent, begins, waits, wakes, makes, is_outside, is_own_call, is_rest, enlists, receives_at, sends_next, removed, removes, goes_on, happens, run_of}
use Rattle.lfm_condvar_laws.specs.Laws.{CoresAreReached, reached_by}

-- some events lead from one state of the user mutex to the other
record Runs (c d : Core) : Type 0 where
  events : List Event
  here : d ≡ Schedules.run_of c events

no_event : (c : Core) → Runs c c
no_event c = record { events = []; here = refl }

one_event : (c : Core) (e : Event) → Runs c (Schedules.happens c e).core
one_event c e = record { events = e ∷ []; here = refl }

runs_if : (c : Core) (b : Bool) (k l : CondvarCore) → Runs c k.mutex → Runs c l.mutex → Runs c (if b then k else l).mutex
runs_if c true k l first second = first
runs_if c false k l first second = second

receiving_runs : (k : CondvarCore) (s : ℕ) (p : Point) → Runs k.mutex (receives_at k s p).mutex
receiving_runs k s Rest = no_event k.mutex
receiving_runs k s (Asleep sleeper) = one_event k.mutex (Schedules.begins s Receive)
receiving_runs k s _ = one_event k.mutex (Schedules.makes s)

next_runs : (k : CondvarCore) (s v : ℕ) (all : Bool) (waiters : List Waiter) → Runs k.mutex (sends_next k s v all waiters).mutex
next_runs k s v all [] = no_event k.mutex
next_runs k s v all (oldest ∷ rest) = one_event k.mutex (Schedules.begins s (SendLock oldest.seat))

enlists_runs : (k : CondvarCore) (s v : ℕ) → Runs k.mutex (enlists k s v).mutex
enlists_runs k s v =
    runs_if k.mutex (is_listed s (k.condvar v).waiters) _ _ (no_event k.mutex) (one_event k.mutex (Schedules.begins s StartWait))

removes_runs : (k : CondvarCore) (s v : ℕ) (all : Bool) → Runs k.mutex (removes k s v all).mutex
removes_runs k s v all =
    runs_if k.mutex all _ _ (next_runs (put_condvar k v (removed (k.condvar v))) s v all (removed (k.condvar v)).waiters)
    (no_event k.mutex)

step_runs : (k : CondvarCore) (s : ℕ) (d : Stage) → Runs k.mutex (goes_on k s d).mutex
step_runs k s outside = one_event k.mutex (Schedules.makes s)
step_runs k s (locking_to_wait v) =
    runs_if k.mutex (nat_eq (k.condvar v).holder 0) _ k (enlists_runs (put_holder k v s) s v) (no_event k.mutex)
step_runs k s (starting v ticket) =
    runs_if k.mutex (is_call (point_of k s)) _ _ (one_event k.mutex (Schedules.makes s)) (no_event k.mutex)
step_runs k s (receiving v ticket) = receiving_runs k s (point_of k s)
step_runs k s (locking_to_wake v all) =
    runs_if k.mutex (nat_eq (k.condvar v).holder 0) _ k (next_runs (put_holder k v s) s v all (k.condvar v).waiters)
    (no_event k.mutex)
step_runs k s (claiming v all oldest) = one_event k.mutex (Schedules.makes s)
step_runs k s (sending v all oldest) =
    runs_if k.mutex (is_call (point_of k s)) _ _ (one_event k.mutex (Schedules.makes s)) (removes_runs k s v all)
step_runs k s (unlocking v) = no_event k.mutex

event_runs : (k : CondvarCore) (e : CondvarEvent) → Runs k.mutex (happens k e).mutex
event_runs k (begins s call) =
    runs_if k.mutex (is_outside (k.stage s) && is_own_call call) _ k (one_event k.mutex (Schedules.begins s call))
    (no_event k.mutex)
event_runs k (waits s v) =
    runs_if k.mutex (is_outside (k.stage s) && is_open (begin k.mutex s StartWait).turn) _ k (no_event k.mutex) (no_event k.mutex)
event_runs k (wakes s v all) =
    runs_if k.mutex (is_outside (k.stage s) && (is_seat k.mutex.seats s && is_rest (point_of k s))) _ k (no_event k.mutex)
    (no_event k.mutex)
event_runs k (makes s) = step_runs k s (k.stage s)

run_both : (c : Core) (first later : List Event)
    → Schedules.run_of c (first ++ later) ≡ Schedules.run_of (Schedules.run_of c first) later
run_both c [] later = refl
run_both c (e ∷ rest) later = run_both (Schedules.happens c e).core rest later

run_runs : (k : CondvarCore) (events : List CondvarEvent) → Runs k.mutex (run_of k events).mutex
run_runs k [] = no_event k.mutex
run_runs k (e ∷ later) =
    let one = event_runs k e in
    let rest = run_runs (happens k e) later in
    record {
      events = one.events ++ rest.events;
      here = rest.here ∙ ap (λ c. Schedules.run_of c rest.events) one.here ∙ sym (run_both k.mutex one.events rest.events);
    }

pub cores_are_reached : CoresAreReached
cores_are_reached r =
    let runs = run_runs (condvar_start r.limits) r.events in
    let mutex : Core = (reached_by r).mutex in
    let is : IsReached mutex = record { limits = r.limits; events = runs.events; few = few_seats r.limits.seats r.limits.budget r.allowed; here = runs.here } in
    let same : mutex.budget ≡ r.limits.budget = ap (λ c. c.budget) runs.here ∙ ap (λ l. l.budget) (limits_stay r.limits runs.events) in
    let small = small_budget r.limits.seats r.limits.budget r.allowed in
    (is, omega (arith, same, small))
