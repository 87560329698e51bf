-- In which order waiters leave the list, whichever cond seats change it: v is a list, and w a later one.
use Rattle.std.specs.Prelude.{◌≡◌, ◌⊎◌, ℕ, ◌+◌, ◌≤◌, List, [], ◌∷◌, ◌++◌, All, length}
use Rattle.lfm_condvar.specs.declared.waiters.Waiter.{Waiter}
use Rattle.lfm_condvar.specs.declared.waiters.Waiters.{Waiters}
use Rattle.lfm_condvar.specs.Keeping.{Appended, Since, Taken, WaitersFollow}
use Rattle.lfm_condvar.specs.Lists.{GoOnFrom, waiter}

-- the waiter is in the list, and those ahead of it are these, oldest first
abbrev pub WaitsBehind : List Waiter → Waiter → Waiters → Type 0
WaitsBehind ahead x v = (behind : List Waiter) × (v.list.items ≡ ahead ++ x ∷ behind)

-- its ticket is one of those that were taken off
abbrev pub WasSent : Waiters → Waiter → Type 0
WasSent w x = x.ticket ≤ w.sent

-- a waiter of v and a waiter of w that have the same ticket have the same seat
abbrev pub TicketsKeepTheirSeats : Waiters → Waiters → Type 0
TicketsKeepTheirSeats v w =
    (before ahead : List Waiter) (x y : Waiter) → WaitsBehind before x v → WaitsBehind ahead y w
    → y.ticket ≡ x.ticket → y.seat ≡ x.seat

-- The waiter of v still waits in w. Ahead of it are those that were ahead of it in v, without the oldest ones, which were sent
abbrev pub StillWaits : List Waiter → Waiter → Waiters → Waiters → Type 0
StillWaits ahead x v w =
    (sent still : List Waiter) × (ahead ≡ sent ++ still) × All (WasSent w) sent × (w.sent ≡ v.sent + length sent)
    × WaitsBehind still x w

-- each waiter of v was sent, and so were all that were ahead of it; or it still waits
abbrev pub WaitersKeepTheirPlaces : Waiters → Waiters → Type 0
WaitersKeepTheirPlaces v w =
    (ahead : List Waiter) (x : Waiter) → WaitsBehind ahead x v → All (WasSent w) (ahead ++ x ∷ []) ⊎ StillWaits ahead x v w

-- Those that have left the list since it was v left it in the order of their tickets, which go on from those sent before: first
-- the waiters of v, and then those that were added since
abbrev pub TicketsLeaveInOrder : Waiters → Waiters → Type 0
TicketsLeaveInOrder v w =
    (gone new : List Waiter) × (v.list.items ++ new ≡ gone ++ w.list.items) × GoOnFrom v.sent gone
    × (w.sent ≡ v.sent + length gone) × GoOnFrom v.added new

pub record SentInOrder (v w : Waiters) : Type 0 where
  pub seats : TicketsKeepTheirSeats v w
  pub places : WaitersKeepTheirPlaces v w
  pub leaving : TicketsLeaveInOrder v w

-- One cond seat after another changed the list from v to w, each as it may. Each list of the path is paired with the cond seat
-- that left it
abbrev pub ChangedBy : List (ℕ × Waiters) → Waiters → Waiters → Type 0
ChangedBy [] v w = v ≡ w
ChangedBy (p ∷ ps) v w = WaitersFollow p.0 v p.1 × ChangedBy ps p.1 w

-- A wait appended the user seat, and left the list v. A later wake found the list w, and took this ticket off
abbrev pub WakeTakesTheTicket : ℕ → ℕ → Waiters → Waiters → Type 0
WakeTakesTheTicket user seat v w = (by : ℕ) × (u : Waiters) × Appended by user u v × (x : Waiters) × Taken (waiter seat v.added ∷ []) w x

pub record WaitersAreSentInOrder : Type 0 where
  -- whichever cond seats changed the list
  pub later : (path : List (ℕ × Waiters)) (v w : Waiters) → ChangedBy path v w → SentInOrder v w
  -- v is the list that the cond seat s left last, and w the one that it finds, or with which the condvar is closed
  pub found : (s : ℕ) (v w : Waiters) → Since s v w → SentInOrder v w
  -- a ticket is taken off with the seat that waited
  pub wakes : (path : List (ℕ × Waiters)) (user seat : ℕ) (v w : Waiters) → ChangedBy path v w → WakeTakesTheTicket user seat v w → seat ≡ user
