-- The laws of condition variables, about every state that a run reaches.
use Rattle.std.specs.Prelude.{◌≡◌, ◌≢◌, ◌⊎◌, ◌↔◌, ℕ, true, false, ◌+◌, ◌<◌, ◌≤◌, List, [], ◌∷◌, length, map, All, Contains, AllPairs}
use Rattle.std.specs.List.{range_with_len}
use Rattle.lfm_protocol.specs.declared.limits.Limits.{Limits}
use Rattle.lfm_protocol.specs.declared.points.Point.TheVariants.{Rest, SendWakeExchange}
use Rattle.lfm_words.specs.declared.wakes.Wake.TheVariants.{Waiting}
use Rattle.lfm_protocol.specs.Limits.{are_in_limits, max_budget}
use Rattle.lfm_protocol.specs.Seats.{seat, wake}
use Rattle.lfm_protocol.specs.Step.{step}
use Rattle.lfm_protocol.specs.Turns.{is_open}
use Rattle.lfm_laws.specs.laws.Laws.{IsReached}
use Rattle.lfm_laws.specs.laws.Schedules as Schedules
use Rattle.lfm_condvar_laws.specs.Claims.{claim_record, claims_on, seats_with}
use Rattle.lfm_condvar_laws.specs.Condvars.{Waiter, Condvar, outside, locking_to_wait, receiving, unlocking, CondvarCore, point_of, put_mutex, is_listed, condvar_start}
use Rattle.lfm_condvar_laws.specs.Events.{CondvarEvent, as_event, is_own_event, happens, run_of, reached}
use Rattle.lfm_condvar_laws.specs.Pushes.{push_record}
use Rattle.lfm_condvar_laws.specs.Stages.{has_lock, is_wake, sends_all}

-- a run of one user mutex and its condvars, for any number of seats and any budget within the limits
pub record CondvarRun : Type 0 where
  pub limits : Limits
  pub events : List CondvarEvent
  pub allowed : are_in_limits limits.seats limits.budget ≡ true

-- the state that it reaches
abbrev pub reached_by : CondvarRun → CondvarCore
reached_by r = reached r.limits r.events

-- the waiters of this condvar that its wakes claimed, in order
abbrev pub claims_of : CondvarRun → ℕ → List Waiter
claims_of r v = claims_on v (claim_record (condvar_start r.limits) r.events)

-- the seats of the claims on this condvar with this ticket
abbrev pub claims_with : CondvarRun → ℕ → ℕ → List ℕ
claims_with r v ticket = seats_with ticket (claims_of r v)

-- the waiters of this condvar for which its wakes pushed a record, in order
abbrev pub pushes_of : CondvarRun → ℕ → List Waiter
pushes_of r v = claims_on v (push_record (condvar_start r.limits) r.events)

-- The user mutex

-- a schedule of the mutex alone reaches the state of the user mutex, within the limits, so all laws of reached states hold of it
abbrev pub CoresAreReached : Type 0
CoresAreReached = (r : CondvarRun) → IsReached (reached_by r).mutex × ((reached_by r).mutex.budget ≤ max_budget)

-- own calls and steps of seats outside of calls on condvars change the user mutex as they do in a schedule, and change nothing
-- else
abbrev pub OwnCallsAreFree : Type 0
OwnCallsAreFree =
    (r : CondvarRun) (events : List Schedules.Event) → All (λ e. is_own_event (reached_by r) e ≡ true) events
    → run_of (reached_by r) (map as_event events) ≡ put_mutex (reached_by r) (Schedules.run_of (reached_by r).mutex events)

-- Claims

-- each seat that is about to make the exchange of a send_lock finds WAITING, so its claim succeeds
abbrev pub ClaimsNeverFail : Type 0
ClaimsNeverFail =
    (r : CondvarRun) (s t : ℕ) → point_of (reached_by r) s ≡ SendWakeExchange t
    → (wake (reached_by r).mutex.wakes t ≡ Waiting) × (is_open (step (reached_by r).mutex s).turn ≡ true)

-- no ticket is claimed twice
abbrev pub TicketsAreClaimedOnce : Type 0
TicketsAreClaimedOnce = (r : CondvarRun) (v ticket : ℕ) → length (claims_with r v ticket) ≤ 1

-- the claims of a condvar have the tickets 1, 2, 3 and so on, in order; while its lock is free, their number is the count of
-- sent tickets
abbrev pub ClaimsAreInOrder : Type 0
ClaimsAreInOrder =
    (r : CondvarRun) (v : ℕ)
    → (map (λ x. x.ticket) (claims_of r v) ≡ range_with_len 1 (length (claims_of r v)))
    × (((reached_by r).condvar v).holder ≡ 0 → length (claims_of r v) ≡ ((reached_by r).condvar v).sent)

-- Each record that the wakes of a condvar push is for one of their claims, and the records increase by ticket
abbrev pub PushesAreInOrder : Type 0
PushesAreInOrder =
    (r : CondvarRun) (v : ℕ)
    → AllPairs (λ first second. first.ticket < second.ticket) (pushes_of r v) × All (Contains (claims_of r v)) (pushes_of r v)

-- Locks

-- The lock of a condvar is held by the seat whose call has taken it and not released it. After the last event of a wake the
-- lock is free
abbrev pub LocksAreGivenBack : Type 0
LocksAreGivenBack =
    (r : CondvarRun) (s v : ℕ)
    → (0 < s → (((reached_by r).condvar v).holder ≡ s) ↔ (has_lock v ((reached_by r).stage s) ≡ true))
    × ((e : CondvarEvent) → is_wake v ((reached_by r).stage s) ≡ true → (happens (reached_by r) e).stage s ≡ outside
    → ((happens (reached_by r) e).condvar v).holder ≡ 0)

-- Wakes

-- when a wake of all stops sending, the list is empty, and its next event releases the lock
abbrev pub WakesEmptyTheList : Type 0
WakesEmptyTheList =
    (r : CondvarRun) (s v : ℕ) (e : CondvarEvent) → sends_all v ((reached_by r).stage s) ≡ true
    → sends_all v ((happens (reached_by r) e).stage s) ≡ false
    → ((happens (reached_by r) e).stage s ≡ unlocking v) × (((happens (reached_by r) e).condvar v).waiters ≡ [])

-- Waits

-- a wait that can take the lock of its condvar does not find its seat in the list
abbrev pub WaitsAreNew : Type 0
WaitsAreNew =
    (r : CondvarRun) (s v : ℕ) → (reached_by r).stage s ≡ locking_to_wait v → ((reached_by r).condvar v).holder ≡ 0
    → is_listed s ((reached_by r).condvar v).waiters ≡ false

-- when a wait is about to end, exactly one claim has been made with its ticket, and it was for its own seat
abbrev pub WaitsAreSent : Type 0
WaitsAreSent =
    (r : CondvarRun) (s v ticket : ℕ) → (reached_by r).stage s ≡ receiving v ticket → point_of (reached_by r) s ≡ Rest
    → claims_with r v ticket ≡ s ∷ []

-- for a wait that has released the lock, either no claim has been made and its wake word is WAITING, or exactly that claim has
-- been made
abbrev pub WaitsSleepUntilSent : Type 0
WaitsSleepUntilSent =
    (r : CondvarRun) (s v ticket : ℕ) → (reached_by r).stage s ≡ receiving v ticket
    → (((claims_with r v ticket ≡ []) × (wake (reached_by r).mutex.wakes s ≡ Waiting)) ⊎ (claims_with r v ticket ≡ s ∷ []))

-- when a wait is about to end, its seat holds the user mutex at depth 1
abbrev pub WaitsEndHolding : Type 0
WaitsEndHolding =
    (r : CondvarRun) (s v ticket : ℕ) → (reached_by r).stage s ≡ receiving v ticket → point_of (reached_by r) s ≡ Rest
    → (seat (reached_by r).mutex.seats s).depth ≡ 1

-- the laws are not vacuous: in some run a wait is about to end
pub record WaitsCanEnd : Type 0 where
  pub run : CondvarRun
  pub seat : ℕ
  pub condvar : ℕ
  pub ticket : ℕ
  pub waits : (reached_by run).stage seat ≡ receiving condvar ticket
  pub holds : point_of (reached_by run) seat ≡ Rest

-- Lists

-- the tickets of the waiters are sent + 1 .. added in order, and their seats are distinct
pub record IsInOrder (x : Condvar) : Type 0 where
  pub size : x.sent + length x.waiters ≡ x.added
  pub tickets : map (λ w. w.ticket) x.waiters ≡ range_with_len (x.sent + 1) (length x.waiters)
  pub distinct : AllPairs (λ first second. first.seat ≢ second.seat) x.waiters

-- each condvar whose lock is free is in order
abbrev pub ListsAreInOrder : Type 0
ListsAreInOrder = (r : CondvarRun) (v : ℕ) → ((reached_by r).condvar v).holder ≡ 0 → IsInOrder ((reached_by r).condvar v)

-- while the lock of a condvar is free, a waiter is listed if and only if its wait receives and no claim has been made with its
-- ticket
abbrev pub WaitersAreListed : Type 0
WaitersAreListed =
    (r : CondvarRun) (v : ℕ) (x : Waiter) → ((reached_by r).condvar v).holder ≡ 0
    → Contains ((reached_by r).condvar v).waiters x
    ↔ (((reached_by r).stage x.seat ≡ receiving v x.ticket) × (claims_with r v x.ticket ≡ []))

-- this seat is a waiter of some condvar
pub record IsListed (k : CondvarCore) (s : ℕ) : Type 0 where
  pub condvar : ℕ
  pub ticket : ℕ
  pub listed : Contains (k.condvar condvar).waiters (record { seat = s; ticket = ticket })

-- at every moment, each seat whose wake word is WAITING is in the list of a condvar
abbrev pub SleepersAreListed : Type 0
SleepersAreListed = (r : CondvarRun) (s : ℕ) → wake (reached_by r).mutex.wakes s ≡ Waiting → IsListed (reached_by r) s
