-- The invariant of every state of a mutex and its condvars, and the ghost that it refers to.
use Rattle.std.specs.Prelude.{◌≡◌, ◌≢◌, ◌⊎◌, ℕ, Bool, true, false, ◌+◌, ◌-◌, ◌<◌, ◌≤◌, List, nat_eq}
use Rattle.lfm_protocol.specs.declared.answers.Call.TheVariants.{StartWait}
use Rattle.lfm_protocol.specs.declared.points.Carrier.{Carrier}
use Rattle.lfm_protocol.specs.declared.points.Entrant.{Entrant}
use Rattle.lfm_protocol.specs.declared.points.Point.{Point}
use Rattle.lfm_protocol.specs.declared.seats.SeatState.{SeatState}
use Rattle.lfm_protocol.specs.declared.points.Point.TheVariants.{Rest, Asleep, SendWakeExchange, SendCountAdd, SendPushRecheck, SendWakeStore, PushLoad, LinkStore, PushExchange, PushedHandoffLoad, PushedHandoffExchange, ReleaseOwnerStore, ReleaseCountSubtract, ReleaseHandoffStore, ReleasePushRecheck, ReleaseHandoffExchange, WaitWakeStore, TakeClearHead, TakeLinkLoad, GrantWakeStore, EnterOwnerStore, ReceiveWakeLoad, ReceiveWakeStore}
use Rattle.lfm_protocol.specs.declared.points.Pusher.{Pusher}
use Rattle.lfm_protocol.specs.declared.points.Releaser.{Releaser}
use Rattle.lfm_protocol.specs.declared.points.Sleeper.{Sleeper}
use Rattle.lfm_words.specs.declared.wakes.Wake.TheVariants.{Waiting}
use Rattle.lfm_laws.specs.steady.Ghost.{Ghost}
use Rattle.lfm_protocol.specs.Turns.{is_open}
use Rattle.lfm_protocol.specs.Core.{Core}
use Rattle.lfm_protocol.specs.Seats.{seat, wake, IsSeat}
use Rattle.lfm_laws.specs.steady.Steady.{Fits}
use Rattle.lfm_protocol.specs.Step.{begin}
use Rattle.lfm_condvar_laws.specs.Condvars.{Waiter, Stage, outside, locking_to_wait, starting, receiving, locking_to_wake, claiming, sending, unlocking, CondvarCore, point_of}
use Rattle.lfm_condvar_laws.proofs.Tickets.{waiters_of}

-- `given v y` is the seat to which condvar v gave the ticket y, and `claimed v` is how many of its tickets were claimed
pub record CondvarGhost : Type 0 where
  pub mutex : Ghost
  pub given : ℕ → ℕ → ℕ
  pub claimed : ℕ → ℕ

-- Points

-- a send that has not yet claimed its target
abbrev pub claims_at : Point → Bool
claims_at (SendWakeExchange t) = true
claims_at _ = false

abbrev pub is_sender : Pusher → Bool
is_sender (Pusher.Sender t) = true
is_sender Pusher.Locker = false

abbrev pub carries_for_send : Carrier → Bool
carries_for_send Carrier.Sender = true
carries_for_send _ = false

-- a send that has claimed its target, or that has ended
abbrev pub sends_at : Point → Bool
sends_at Rest = true
sends_at (SendCountAdd t) = true
sends_at (SendPushRecheck t seen) = true
sends_at (SendWakeStore t) = true
sends_at (PushLoad pusher) = is_sender pusher
sends_at (LinkStore pusher seen) = is_sender pusher
sends_at (PushExchange pusher seen) = is_sender pusher
sends_at (PushedHandoffLoad pusher) = is_sender pusher
sends_at (PushedHandoffExchange pusher seen) = is_sender pusher
sends_at (TakeClearHead carrier) = carries_for_send carrier
sends_at (TakeLinkLoad carrier next) = carries_for_send carrier
sends_at (GrantWakeStore carrier oldest) = carries_for_send carrier
sends_at _ = false

abbrev pub carries_to_wait : Carrier → Bool
carries_to_wait (Carrier.Releaser Releaser.Waiter) = true
carries_to_wait (Carrier.Reclaimer Releaser.Waiter) = true
carries_to_wait _ = false

-- a step of start_wait
abbrev pub waits_at : Point → Bool
waits_at (ReleaseOwnerStore Releaser.Waiter) = true
waits_at (ReleaseCountSubtract Releaser.Waiter) = true
waits_at (ReleaseHandoffStore Releaser.Waiter) = true
waits_at (ReleasePushRecheck Releaser.Waiter) = true
waits_at (ReleaseHandoffExchange Releaser.Waiter) = true
waits_at (WaitWakeStore released) = true
waits_at (TakeClearHead carrier) = carries_to_wait carrier
waits_at (TakeLinkLoad carrier next) = carries_to_wait carrier
waits_at (GrantWakeStore carrier oldest) = carries_to_wait carrier
waits_at _ = false

-- a point that only calls on condvars reach: the claim of a send, a start_wait, and the sleep after it
abbrev pub is_of_condvar : Point → Bool
is_of_condvar (SendWakeExchange t) = true
is_of_condvar (Asleep Sleeper.Waiter) = true
is_of_condvar (ReceiveWakeLoad Sleeper.Waiter) = true
is_of_condvar p = waits_at p

-- a seat with this depth either receives what a send gives it, or has received it and holds
abbrev pub comes_to_hold_at : ℕ → Point → Bool
comes_to_hold_at depth Rest = nat_eq depth 1
comes_to_hold_at depth (Asleep Sleeper.Waiter) = true
comes_to_hold_at depth (ReceiveWakeLoad Sleeper.Waiter) = true
comes_to_hold_at depth (ReceiveWakeStore stamp) = true
comes_to_hold_at depth (EnterOwnerStore Entrant.Receiver how) = true
comes_to_hold_at depth _ = false

abbrev pub comes_to_hold : SeatState → Bool
comes_to_hold x = comes_to_hold_at x.depth x.point

-- What a call on a condvar knows

-- seat s is in start_wait, or has slept since start_wait and was not claimed
abbrev pub StartsAt : Core → ℕ → Type 0
StartsAt c s =
    (waits_at (seat c.seats s).point ≡ true) ⊎ (((seat c.seats s).point ≡ Asleep Sleeper.Waiter) × (wake c.wakes s ≡ Waiting))

-- the call of seat s has the lock of condvar v
pub record Locks (k : CondvarCore) (s v : ℕ) : Type 0 where
  pub is : IsSeat k.mutex.seats s
  pub holds : (k.condvar v).holder ≡ s

-- the call has added the last ticket, and its seat is in start_wait or waits
pub record StartingFits (k : CondvarCore) (g : CondvarGhost) (s v ticket : ℕ) : Type 0 where
  pub locks : Locks k s v
  pub given : g.given v ticket ≡ s
  pub last : (k.condvar v).added ≡ ticket
  pub pending : (k.condvar v).sent < ticket
  pub unclaimed : g.claimed v ≡ (k.condvar v).sent
  pub at : StartsAt k.mutex s

-- the seat waits until its ticket is claimed, and no longer
pub record ReceivingFits (k : CondvarCore) (g : CondvarGhost) (s v ticket : ℕ) : Type 0 where
  pub given : g.given v ticket ≡ s
  pub some : 0 < ticket
  pub within : ticket ≤ (k.condvar v).added
  pub waits : g.claimed v < ticket → wake k.mutex.wakes s ≡ Waiting
  pub sent : ticket ≤ g.claimed v → wake k.mutex.wakes s ≢ Waiting
  pub at : comes_to_hold (seat k.mutex.seats s) ≡ true

pub record ClaimingFits (k : CondvarCore) (g : CondvarGhost) (s v : ℕ) (oldest : Waiter) : Type 0 where
  pub locks : Locks k s v
  pub unclaimed : g.claimed v ≡ (k.condvar v).sent
  pub pending : (k.condvar v).sent < (k.condvar v).added
  pub seat : oldest.seat ≡ g.given v ((k.condvar v).sent + 1)
  pub ticket : oldest.ticket ≡ (k.condvar v).sent + 1
  pub at : point_of k s ≡ SendWakeExchange oldest.seat

pub record SendingFits (k : CondvarCore) (g : CondvarGhost) (s v : ℕ) : Type 0 where
  pub locks : Locks k s v
  pub claimed : g.claimed v ≡ (k.condvar v).sent + 1
  pub pending : (k.condvar v).sent < (k.condvar v).added
  pub at : sends_at (point_of k s) ≡ true

pub record UnlockingFits (k : CondvarCore) (g : CondvarGhost) (s v : ℕ) : Type 0 where
  pub locks : Locks k s v
  pub unclaimed : g.claimed v ≡ (k.condvar v).sent
  pub at : point_of k s ≡ Rest

pub record LockingToWakeFits (k : CondvarCore) (s : ℕ) : Type 0 where
  pub is : IsSeat k.mutex.seats s
  pub at : point_of k s ≡ Rest

abbrev pub StageFits : CondvarCore → CondvarGhost → ℕ → Stage → Type 0
StageFits k g s outside = is_of_condvar (point_of k s) ≡ false
StageFits k g s (locking_to_wait v) = is_open (begin k.mutex s StartWait).turn ≡ true
StageFits k g s (starting v ticket) = StartingFits k g s v ticket
StageFits k g s (receiving v ticket) = ReceivingFits k g s v ticket
StageFits k g s (locking_to_wake v all) = LockingToWakeFits k s
StageFits k g s (claiming v all oldest) = ClaimingFits k g s v oldest
StageFits k g s (sending v all oldest) = SendingFits k g s v
StageFits k g s (unlocking v) = UnlockingFits k g s v

-- A condvar

-- seat t is in the list of condvar v with this ticket, which was not claimed: its wait has the lock, or the seat waits
abbrev pub IsPending : CondvarCore → ℕ → ℕ → ℕ → Type 0
IsPending k v ticket t =
    (k.stage t ≡ starting v ticket) ⊎ ((k.stage t ≡ receiving v ticket) × (wake k.mutex.wakes t ≡ Waiting))

pub record CondvarFits (k : CondvarCore) (g : CondvarGhost) (v : ℕ) : Type 0 where
  pub order : (k.condvar v).sent ≤ (k.condvar v).added
  pub counted : (k.condvar v).sent ≤ g.claimed v
  pub waiters : (k.condvar v).waiters ≡ waiters_of (g.given v) (k.condvar v).sent ((k.condvar v).added - (k.condvar v).sent)
  pub free : (k.condvar v).holder ≡ 0 → g.claimed v ≡ (k.condvar v).sent
  pub pending : (ticket : ℕ) → g.claimed v < ticket → ticket ≤ (k.condvar v).added → IsPending k v ticket (g.given v ticket)

pub record CoreFits (k : CondvarCore) (g : CondvarGhost) : Type 0 where
  pub mutex : Fits k.mutex g.mutex
  pub condvars : (v : ℕ) → CondvarFits k g v
  pub stages : (s : ℕ) → StageFits k g s (k.stage s)

-- What runs have claimed

-- the waiters of condvar v that were claimed, according to the ghost
abbrev pub claims_told : CondvarGhost → ℕ → List Waiter
claims_told g v = waiters_of (g.given v) 0 (g.claimed v)
