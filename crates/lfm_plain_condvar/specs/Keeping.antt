-- How the list is changed, by a call and by other seats.
use Rattle.std.specs.Prelude.{◌≡◌, ◌≢◌, ◌⊎◌, ℕ, ◌+◌, ◌^◌, ◌<◌, ◌≤◌, List, [], ◌∷◌, ◌++◌, Option, Some, None, Result, Ok, Err, length, remove}
use mathlib.Core.Option.{some}
use lib.ListN.{get_elem?}
use Rattle.lfm_plain_condvar.specs.declared.parkers.Waker.{Waker}
use Rattle.lfm_plain_condvar.specs.declared.waiters.Enlisted.{Enlisted}
use Rattle.lfm_plain_condvar.specs.declared.waiters.WaitCounts.{WaitCounts}
use Rattle.lfm_plain_condvar.specs.declared.waiters.Waiter.{Waiter}
use Rattle.lfm_plain_condvar.specs.declared.waiters.Waiters.{Waiters}
use Rattle.lfm_plain_condvar.specs.Lists.{AllBy, Divides, GoOnFrom}

abbrev pub IsNew : Waiters → Type 0
IsNew v = (v.list.items ≡ []) × (v.added ≡ 0) × (v.woken ≡ 0) × (v.timed_out ≡ 0)

abbrev pub HasCounts : WaitCounts → Waiters → Type 0
HasCounts c v = (c.added ≡ v.added) × (c.woken ≡ v.woken) × (c.timed_out ≡ v.timed_out)

-- what never changes
abbrev pub SameSeats : Waiters → Waiters → Type 0
SameSeats v w = (w.seats ≡ v.seats) × (w.name ≡ v.name)

-- this waker was added at the end of the list, with the next ticket
abbrev pub Puts : Waker → ℕ → Waiters → Waiters → Type 0
Puts k ticket v w = (w.list.items ≡ v.list.items ++ record { waker = k; ticket = ticket } ∷ []) × (ticket ≡ v.added + 1) × (w.added ≡ ticket) × (w.woken ≡ v.woken) × (w.timed_out ≡ v.timed_out) × SameSeats v w

-- these were the oldest, in this order, and were taken out for a wake
abbrev pub TakesFirst : List Waiter → Waiters → Waiters → Type 0
TakesFirst gone v w = (v.list.items ≡ gone ++ w.list.items) × (w.added ≡ v.added) × (w.woken ≡ v.woken + length gone) × (w.timed_out ≡ v.timed_out) × SameSeats v w

-- this one was taken out, since its time was over, and the others stay in order
abbrev pub TakesOut : Waiter → Waiters → Waiters → Type 0
TakesOut x v w = (i : ℕ) × (get_elem? v.list.items i ≡ some x) × (w.list.items ≡ remove v.list.items i) × (w.added ≡ v.added) × (w.woken ≡ v.woken) × (w.timed_out ≡ v.timed_out + 1) × SameSeats v w

-- the seat with this number waits with this ticket
abbrev pub Is : ℕ → ℕ → Waiter → Type 0
Is number ticket x = (x.waker.number ≡ number) × (x.ticket ≡ ticket)

-- the seat with this number doesn't wait with this ticket
abbrev pub NotListed : ℕ → ℕ → Waiters → Type 0
NotListed number ticket v = (j : ℕ) (x : Waiter) → get_elem? v.list.items j ≡ some x → Is number ticket x → ⊥

-- What has happened to the list since it was v, if only seats whose numbers have the property `by` were added to it, or left
-- it when their time was over. Any seat may have woken others
pub record GoesOn (by : ℕ → Type 0) (v w : Waiters) : Type 0 where
  pub same : SameSeats v w
  -- the waiters that were added, with the next tickets
  pub new : List Waiter
  -- those that were woken, and those whose time was over, each in the order of their tickets
  pub woken : List Waiter
  pub left : List Waiter
  pub tickets : GoOnFrom v.added new
  -- each waiter of v and each new one either left, was woken, or still waits, and those that were woken are the oldest of
  -- those that did not leave
  pub places : Divides (v.list.items ++ new) (woken ++ w.list.items) left
  pub counts : (w.added ≡ v.added + length new) × (w.woken ≡ v.woken + length woken) × (w.timed_out ≡ v.timed_out + length left)
  pub adds_by : AllBy by new
  pub leaves_by : AllBy by left

-- how the seat with this number may change the list: it adds itself, or takes itself out, or wakes the oldest
abbrev pub WaitersFollow : ℕ → Waiters → Waiters → Type 0
WaitersFollow s = GoesOn (λ k. k ≡ s)

-- how seats other than this one may have changed the list
abbrev pub Since : ℕ → Waiters → Waiters → Type 0
Since s = GoesOn (λ k. k ≢ s)

-- as many wait as there are seats, or no ticket is left
abbrev pub IsFull : Waiters → Type 0
IsFull v = (v.seats ≤ length v.list.items) ⊎ (2 ^ 64 ≤ v.added + 1)

-- how an append ends: the waker is handed back only if nobody can be added
abbrev pub Adds : Waker → Waiters → Waiters → Result Enlisted Waker → Type 0
Adds k v w (Ok e) = Puts k e.ticket v w × (e.ahead ≡ length v.list.items)
Adds k v w (Err back) = (back ≡ k) × (w ≡ v) × IsFull v

-- how a waiter whose time is over leaves: it was taken out, with its waker, or it was not in the list any more
abbrev pub Leaves : ℕ → ℕ → Waiters → Waiters → Option Waiter → Type 0
Leaves number ticket v w None = NotListed number ticket v × (w ≡ v)
Leaves number ticket v w (Some x) = (x.waker.number ≡ number) × (x.ticket ≡ ticket) × (x.waker.seat.table_id ≡ v.name.root.table_id) × TakesOut x v w

-- how the oldest is taken out for a wake, if there is one
abbrev pub TakesMaybe : Waiters → Waiters → Option Waiter → Type 0
TakesMaybe v w None = (v.list.items ≡ []) × (w ≡ v)
TakesMaybe v w (Some x) = TakesFirst (x ∷ []) v w × (x.waker.number ≤ v.seats) × (x.waker.seat.table_id ≡ v.name.root.table_id) × (0 < x.waker.number)
