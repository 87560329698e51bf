-- States of one user mutex and any number of condition variables: the mutex, the condvars by number, and the stage of each
-- seat's call on a condvar. Every number is the number of a condvar. Every number may also be used for a seat: one that no seat
-- has reads as an absent seat.
use Rattle.std.specs.Prelude.{ℕ, Bool, true, false, List, [], ◌∷◌, nat_eq, if◌then◌else◌}
use Rattle.lfm_protocol.specs.declared.limits.Limits.{Limits}
use Rattle.lfm_protocol.specs.declared.points.Point.{Point}
use Rattle.lfm_protocol.specs.Core.{Core}
use Rattle.lfm_protocol.specs.Seats.{seat}
use Rattle.lfm_protocol.specs.Step.{start}
use Rattle.lfm_laws.specs.steady.Numbered.{changed}

-- a seat of the user mutex in the list of a condvar, and the ticket of its wait
pub record Waiter : Type 0 where
  pub seat : ℕ
  pub ticket : ℕ

-- How many waiters were sent, how many were added, and those that are left, oldest first. The inner mutex is modelled as one
-- atomic lock: `holder` is the seat whose call has it, or 0 if it is free.
pub record Condvar : Type 0 where
  pub sent : ℕ
  pub added : ℕ
  pub waiters : List Waiter
  pub holder : ℕ

-- The stage of a seat's call on a condvar. It names the condvar by its number, and determines what the call does next. In a
-- wake, `all` says whether it sends every waiter or the oldest alone.
pub data Stage : Type 0 where
  -- the seat is in no such call
  outside : Stage
  -- a wait of this condvar takes its lock
  locking_to_wait : ℕ → Stage
  -- a wait has the lock and was added with this ticket: it makes the steps of start_wait, then releases the lock
  starting : ℕ → ℕ → Stage
  -- a wait with this ticket has released the lock, and receives until it holds
  receiving : ℕ → ℕ → Stage
  -- a wake takes the lock
  locking_to_wake : ℕ → Bool → Stage
  -- a wake has the lock and began send_lock for the oldest waiter, this one: it makes the first step, the claim
  claiming : ℕ → Bool → Waiter → Stage
  -- a wake makes the other steps of this send_lock, then removes the waiter
  sending : ℕ → Bool → Waiter → Stage
  -- the call releases the lock, and ends
  unlocking : ℕ → Stage

pub record CondvarCore : Type 0 where
  pub mutex : Core
  pub condvar : ℕ → Condvar
  pub stage : ℕ → Stage

-- the point of seat s in the user mutex
abbrev pub point_of : CondvarCore → ℕ → Point
point_of k s = (seat k.mutex.seats s).point

-- sets the stage of seat s
abbrev pub put_stage : CondvarCore → ℕ → Stage → CondvarCore
put_stage k s stage = record k { stage = changed k.stage s stage }

-- sets condvar v
abbrev pub put_condvar : CondvarCore → ℕ → Condvar → CondvarCore
put_condvar k v x = record k { condvar = changed k.condvar v x }

-- sets the user mutex
abbrev pub put_mutex : CondvarCore → Core → CondvarCore
put_mutex k c = record k { mutex = c }

-- gives the lock of condvar v to the call of seat s
abbrev pub put_holder : CondvarCore → ℕ → ℕ → CondvarCore
put_holder k v s = put_condvar k v (record (k.condvar v) { holder = s })

-- whether one of the waiters is this seat
abbrev pub is_listed : ℕ → List Waiter → Bool
is_listed s [] = false
is_listed s (x ∷ rest) = if nat_eq x.seat s then true else is_listed s rest

-- a condvar on which no seat has waited
abbrev pub unused : Condvar
unused = record { sent = 0; added = 0; waiters = []; holder = 0 }

-- the mutex at its start, with no call on a condvar yet
abbrev pub condvar_start : Limits → CondvarCore
condvar_start limits = record { mutex = start limits; condvar = λ v. unused; stage = λ s. outside }
