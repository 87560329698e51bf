-- What the calls on condvars do, one atomic step at a time. All other calls of the user mutex may come in between, but
-- start_wait is made only by `wait`, and send_lock only by wakes. Each event has exactly one outcome.
use Rattle.std.specs.Prelude.{ℕ, Bool, true, false, ◌+◌, ◌++◌, ◌&&◌, List, [], ◌∷◌, drop, nat_eq, if◌then◌else◌}
use Rattle.lfm_protocol.specs.declared.answers.Call.{Call}
use Rattle.lfm_protocol.specs.declared.answers.Call.TheVariants.{StartWait, SendLock, Receive}
use Rattle.lfm_protocol.specs.declared.limits.Limits.{Limits}
use Rattle.lfm_protocol.specs.declared.points.Point.{Point}
use Rattle.lfm_protocol.specs.declared.points.Point.TheVariants.{Rest, Asleep}
use Rattle.lfm_protocol.specs.Seats.{is_seat}
use Rattle.lfm_protocol.specs.Step.{begin, step}
use Rattle.lfm_protocol.specs.Turns.{is_open}
use Rattle.lfm_laws.specs.laws.Schedules as Schedules
use Rattle.lfm_laws.specs.laws.Schedules.{is_call}
use Rattle.lfm_condvar_laws.specs.Condvars.{Waiter, Condvar, Stage, outside, locking_to_wait, starting, receiving, locking_to_wake, claiming, sending, unlocking, CondvarCore, point_of, put_stage, put_condvar, put_mutex, put_holder, is_listed, condvar_start}

pub data CondvarEvent : Type 0 where
  -- seat s calls the user mutex
  begins : ℕ → Call → CondvarEvent
  -- seat s calls `wait` of condvar v
  waits : ℕ → ℕ → CondvarEvent
  -- seat s calls `wake_one` (false) or `wake_all` (true) of condvar v
  wakes : ℕ → ℕ → Bool → CondvarEvent
  -- the call of seat s makes its next step
  makes : ℕ → CondvarEvent

-- seat s makes the atomic step at its point in the user mutex
abbrev pub mutex_steps : CondvarCore → ℕ → CondvarCore
mutex_steps k s = put_mutex k (step k.mutex s).core

-- seat s begins a call of the user mutex
abbrev pub mutex_begins : CondvarCore → ℕ → Call → CondvarCore
mutex_begins k s call = put_mutex k (begin k.mutex s call).core

-- Calls begin

-- the calls of the user mutex that are made outside of condvars
abbrev pub is_own_call : Call → Bool
is_own_call StartWait = false
is_own_call (SendLock t) = false
is_own_call _ = true

-- the seat is in no call on a condvar
abbrev pub is_outside : Stage → Bool
is_outside outside = true
is_outside _ = false

-- the seat is awake, and in no call of the user mutex
abbrev pub is_rest : Point → Bool
is_rest Rest = true
is_rest _ = false

abbrev pub begins_call : CondvarCore → ℕ → Call → CondvarCore
begins_call k s call = if is_outside (k.stage s) && is_own_call call then mutex_begins k s call else k

-- a wait is refused if start_wait would be
abbrev pub begins_wait : CondvarCore → ℕ → ℕ → CondvarCore
begins_wait k s v =
    if is_outside (k.stage s) && is_open (begin k.mutex s StartWait).turn then put_stage k s (locking_to_wait v) else k

-- a wake is refused if the seat sleeps
abbrev pub begins_wake : CondvarCore → ℕ → ℕ → Bool → CondvarCore
begins_wake k s v all =
    if is_outside (k.stage s) && (is_seat k.mutex.seats s && is_rest (point_of k s))
    then put_stage k s (locking_to_wake v all)
    else k

-- A wait

-- the condvar with one more waiter, appended to the list
abbrev pub enlisted : Condvar → ℕ → Condvar
enlisted x s =
    record x {
      added = x.added + 1;
      waiters = x.waiters ++ record { seat = s; ticket = x.added + 1 } ∷ [];
    }

-- with the lock: a seat that is already in the list is refused as Busy; otherwise it is added, and start_wait begins
abbrev pub enlists : CondvarCore → ℕ → ℕ → CondvarCore
enlists k s v =
    if is_listed s (k.condvar v).waiters
    then put_stage k s (unlocking v)
    else put_stage (put_condvar (mutex_begins k s StartWait) v (enlisted (k.condvar v) s)) s (starting v ((k.condvar v).added + 1))

-- the lock is released
abbrev pub gives_back : CondvarCore → ℕ → CondvarCore
gives_back k v = put_holder k v 0

-- a wait that has released the lock: it receives while it sleeps, and ends when it holds
abbrev pub receives_at : CondvarCore → ℕ → Point → CondvarCore
receives_at k s Rest = put_stage k s outside
receives_at k s (Asleep sleeper) = mutex_begins k s Receive
receives_at k s _ = mutex_steps k s

-- A wake

-- with the lock: the wake continues with the oldest waiter, if there is one
abbrev pub sends_next : CondvarCore → ℕ → ℕ → Bool → List Waiter → CondvarCore
sends_next k s v all [] = put_stage k s (unlocking v)
sends_next k s v all (oldest ∷ rest) = put_stage (mutex_begins k s (SendLock oldest.seat)) s (claiming v all oldest)

-- a claim that fails ends the wake, and the waiter stays
abbrev pub claims_waiter : CondvarCore → ℕ → ℕ → Bool → Waiter → CondvarCore
claims_waiter k s v all oldest =
    put_stage (mutex_steps k s) s (if is_open (step k.mutex s).turn then sending v all oldest else unlocking v)

-- the condvar without its oldest waiter, which was sent
abbrev pub removed : Condvar → Condvar
removed x = record x { sent = x.sent + 1; waiters = drop 1 x.waiters }

-- the waiter was sent: it is removed from the list, and a wake of all continues with the next one
abbrev pub removes : CondvarCore → ℕ → ℕ → Bool → CondvarCore
removes k s v all =
    if all
    then sends_next (put_condvar k v (removed (k.condvar v))) s v all (removed (k.condvar v)).waiters
    else put_stage (put_condvar k v (removed (k.condvar v))) s (unlocking v)

-- A step

-- a call that needs the lock of a condvar changes nothing while another call has it
abbrev pub takes_lock : CondvarCore → ℕ → CondvarCore → CondvarCore
takes_lock k v with_lock = if nat_eq (k.condvar v).holder 0 then with_lock else k

-- what the call of seat s does next, by its stage
abbrev pub goes_on : CondvarCore → ℕ → Stage → CondvarCore
goes_on k s outside = mutex_steps k s
goes_on k s (locking_to_wait v) = takes_lock k v (enlists (put_holder k v s) s v)
goes_on k s (starting v ticket) =
    if is_call (point_of k s) then mutex_steps k s else put_stage (gives_back k v) s (receiving v ticket)
goes_on k s (receiving v ticket) = receives_at k s (point_of k s)
goes_on k s (locking_to_wake v all) = takes_lock k v (sends_next (put_holder k v s) s v all (k.condvar v).waiters)
goes_on k s (claiming v all oldest) = claims_waiter k s v all oldest
goes_on k s (sending v all oldest) = if is_call (point_of k s) then mutex_steps k s else removes k s v all
goes_on k s (unlocking v) = put_stage (gives_back k v) s outside

abbrev pub happens : CondvarCore → CondvarEvent → CondvarCore
happens k (begins s call) = begins_call k s call
happens k (waits s v) = begins_wait k s v
happens k (wakes s v all) = begins_wake k s v all
happens k (makes s) = goes_on k s (k.stage s)

-- the state after some events
abbrev pub run_of : CondvarCore → List CondvarEvent → CondvarCore
run_of k [] = k
run_of k (e ∷ later) = run_of (happens k e) later

-- the state of a mutex with these limits and its condvars after some events
abbrev pub reached : Limits → List CondvarEvent → CondvarCore
reached limits events = run_of (condvar_start limits) events

-- Events of the user mutex

-- an event of the user mutex as an event of a run
abbrev pub as_event : Schedules.Event → CondvarEvent
as_event (Schedules.begins s call) = begins s call
as_event (Schedules.makes s) = makes s

-- an event of a seat outside of calls on condvars: the start of an own call, or a step
abbrev pub is_own_event : CondvarCore → Schedules.Event → Bool
is_own_event k (Schedules.begins s call) = is_outside (k.stage s) && is_own_call call
is_own_event k (Schedules.makes s) = is_outside (k.stage s)
