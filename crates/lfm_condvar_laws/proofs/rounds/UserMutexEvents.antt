-- The event of the user mutex that an event of the model is, if it is one, and the list of those of a run. The user mutex changes
-- by this event as in a schedule.
use Rattle.std.proofs.Common.{◌≡◌, ℕ, Bool, true, false, ◌&&◌, Option, Some, None, List, [], ◌∷◌, ◌++◌, nat_eq, refl, sym, ap, ◌∙◌, if◌then◌else◌}
use Rattle.lfm_protocol.specs.declared.answers.Call.TheVariants.{StartWait, SendLock, Receive}
use Rattle.lfm_protocol.specs.declared.points.Point.{Point}
use Rattle.lfm_protocol.specs.declared.points.Point.TheVariants.{Rest, Asleep}
use Rattle.lfm_protocol.specs.Core.{Core}
use Rattle.lfm_protocol.specs.Seats.{is_seat}
use Rattle.lfm_protocol.specs.Step.{begin}
use Rattle.lfm_protocol.specs.Turns.{is_open}
use Rattle.lfm_laws.specs.laws.Schedules as Schedules
use Rattle.lfm_laws.specs.laws.Schedules.{Event, is_call}
use Rattle.lfm_laws.proofs.steady.frames.Sums.{changed_same}
use Rattle.lfm_condvar_laws.specs.Condvars.{Waiter, Stage, outside, locking_to_wait, starting, receiving, locking_to_wake, claiming, sending, unlocking, CondvarCore, point_of, is_listed, put_condvar, put_holder}
use Rattle.lfm_condvar_laws.specs.Events.{CondvarEvent, begins, waits, wakes, makes, is_outside, is_own_call, is_rest, enlists, receives_at, sends_next, removed, removes, goes_on, happens, run_of}

abbrev sent_event : ℕ → List Waiter → Option Event
sent_event s [] = None
sent_event s (oldest ∷ rest) = Some (Schedules.begins s (SendLock oldest.seat))

abbrev pub received_event : ℕ → Point → Option Event
received_event s Rest = None
received_event s (Asleep sleeper) = Some (Schedules.begins s Receive)
received_event s _ = Some (Schedules.makes s)

-- what a step of seat s is in the user mutex, by its stage
abbrev pub stage_event : CondvarCore → ℕ → Stage → Option Event
stage_event k s outside = Some (Schedules.makes s)
stage_event k s (locking_to_wait v) =
    if nat_eq (k.condvar v).holder 0
    then (if is_listed s (k.condvar v).waiters then None else Some (Schedules.begins s StartWait))
    else None
stage_event k s (starting v ticket) = if is_call (point_of k s) then Some (Schedules.makes s) else None
stage_event k s (receiving v ticket) = received_event s (point_of k s)
stage_event k s (locking_to_wake v all) = if nat_eq (k.condvar v).holder 0 then sent_event s (k.condvar v).waiters else None
stage_event k s (claiming v all oldest) = Some (Schedules.makes s)
stage_event k s (sending v all oldest) =
    if is_call (point_of k s)
    then Some (Schedules.makes s)
    else (if all then sent_event s (removed (k.condvar v)).waiters else None)
stage_event k s (unlocking v) = None

abbrev pub mutex_event : CondvarCore → CondvarEvent → Option Event
mutex_event k (begins s call) = if is_outside (k.stage s) && is_own_call call then Some (Schedules.begins s call) else None
mutex_event k (makes s) = stage_event k s (k.stage s)
mutex_event k _ = None

-- the user mutex after such an event
abbrev pub after : Core → Option Event → Core
after c None = c
after c (Some e) = (Schedules.happens c e).core

-- Each event changes the user mutex so

if_after : (b : Bool) (k l : CondvarCore) (c : Core) (x y : Option Event) → k.mutex ≡ after c x → l.mutex ≡ after c y
    → (if b then k else l).mutex ≡ after c (if b then x else y)
if_after true k l c x y first second = first
if_after false k l c x y first second = second

enlists_so : (k : CondvarCore) (s v : ℕ)
    → (enlists k s v).mutex ≡ after k.mutex (if is_listed s (k.condvar v).waiters then None else Some (Schedules.begins s StartWait))
enlists_so k s v = if_after (is_listed s (k.condvar v).waiters) _ _ k.mutex None (Some (Schedules.begins s StartWait)) refl refl

next_so : (k : CondvarCore) (s v : ℕ) (all : Bool) (waiters : List Waiter) → (sends_next k s v all waiters).mutex ≡ after k.mutex (sent_event s waiters)
next_so k s v all [] = refl
next_so k s v all (oldest ∷ rest) = refl

receives_so : (k : CondvarCore) (s : ℕ) (p : Point) → (receives_at k s p).mutex ≡ after k.mutex (received_event s p)
receives_so k s Rest = refl
receives_so k s (Asleep sleeper) = refl
receives_so k s _ = refl

removes_so : (k : CondvarCore) (s v : ℕ) (all : Bool) → (removes k s v all).mutex ≡ after k.mutex (if all then sent_event s (removed (k.condvar v)).waiters else None)
removes_so k s v all =
    if_after all _ _ k.mutex (sent_event s (removed (k.condvar v)).waiters) None
    (next_so (put_condvar k v (removed (k.condvar v))) s v all (removed (k.condvar v)).waiters) refl

same_waiters : (k : CondvarCore) (s v : ℕ) → ((put_holder k v s).condvar v).waiters ≡ (k.condvar v).waiters
same_waiters k s v = ap (λ x. x.waiters) (changed_same k.condvar v (record (k.condvar v) { holder = s }))

step_so : (k : CondvarCore) (s : ℕ) (d : Stage) → (goes_on k s d).mutex ≡ after k.mutex (stage_event k s d)
step_so k s outside = refl
step_so k s (locking_to_wait v) =
    if_after (nat_eq (k.condvar v).holder 0) _ k k.mutex _ None
    (enlists_so (put_holder k v s) s v
    ∙ ap (λ waiters. after k.mutex (if is_listed s waiters then None else Some (Schedules.begins s StartWait))) (same_waiters k s v)) refl
step_so k s (starting v ticket) = if_after (is_call (point_of k s)) _ _ k.mutex (Some (Schedules.makes s)) None refl refl
step_so k s (receiving v ticket) = receives_so k s (point_of k s)
step_so k s (locking_to_wake v all) =
    if_after (nat_eq (k.condvar v).holder 0) _ k k.mutex (sent_event s (k.condvar v).waiters) None
    (next_so (put_holder k v s) s v all (k.condvar v).waiters) refl
step_so k s (claiming v all oldest) = refl
step_so k s (sending v all oldest) =
    if_after (is_call (point_of k s)) _ _ k.mutex (Some (Schedules.makes s)) _ refl (removes_so k s v all)
step_so k s (unlocking v) = refl

pub event_so : (k : CondvarCore) (e : CondvarEvent) → (happens k e).mutex ≡ after k.mutex (mutex_event k e)
event_so k (begins s call) =
    if_after (is_outside (k.stage s) && is_own_call call) _ k k.mutex (Some (Schedules.begins s call)) None refl refl
event_so k (waits s v) =
    if_after (is_outside (k.stage s) && is_open (begin k.mutex s StartWait).turn) _ k k.mutex None None refl refl
    ∙ none (is_outside (k.stage s) && is_open (begin k.mutex s StartWait).turn)
  where
    none : (b : Bool) → after k.mutex (if b then None else None) ≡ k.mutex
    none true = refl
    none false = refl
event_so k (wakes s v all) =
    if_after (is_outside (k.stage s) && (is_seat k.mutex.seats s && is_rest (point_of k s))) _ k k.mutex None None refl refl
    ∙ none (is_outside (k.stage s) && (is_seat k.mutex.seats s && is_rest (point_of k s)))
  where
    none : (b : Bool) → after k.mutex (if b then None else None) ≡ k.mutex
    none true = refl
    none false = refl
event_so k (makes s) = step_so k s (k.stage s)

-- Runs

abbrev pub with_first : Option Event → List Event → List Event
with_first None later = later
with_first (Some e) later = e ∷ later

-- the events of the user mutex in a run
abbrev pub mutex_record : CondvarCore → List CondvarEvent → List Event
mutex_record k [] = []
mutex_record k (e ∷ later) = with_first (mutex_event k e) (mutex_record (happens k e) later)

first_run : (c : Core) (x : Option Event) (later : List Event) → Schedules.run_of c (with_first x later) ≡ Schedules.run_of (after c x) later
first_run c None later = refl
first_run c (Some e) later = refl

pub run_so : (k : CondvarCore) (events : List CondvarEvent) → (run_of k events).mutex ≡ Schedules.run_of k.mutex (mutex_record k events)
run_so k [] = refl
run_so k (e ∷ later) =
    run_so (happens k e) later ∙ ap (λ c. Schedules.run_of c (mutex_record (happens k e) later)) (event_so k e)
    ∙ sym (first_run k.mutex (mutex_event k e) (mutex_record (happens k e) later))

first_append : (x : Option Event) (first later : List Event) → with_first x (first ++ later) ≡ with_first x first ++ later
first_append None first later = refl
first_append (Some e) first later = refl

pub record_append : (k : CondvarCore) (first later : List CondvarEvent) → mutex_record k (first ++ later) ≡ mutex_record k first ++ mutex_record (run_of k first) later
record_append k [] later = refl
record_append k (e ∷ first) later =
    ap (with_first (mutex_event k e)) (record_append (happens k e) first later)
    ∙ first_append (mutex_event k e) (mutex_record (happens k e) first) (mutex_record (run_of (happens k e) first) later)
