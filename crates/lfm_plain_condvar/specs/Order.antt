-- What becomes of tickets, whichever seats change the list: v is a list, and w a later one.
use Rattle.std.specs.Prelude.{◌≡◌, ◌≢◌, ◌⊎◌, ℕ, ◌<◌, List, [], ◌∷◌, Some}
use Rattle.lfm_protocol.specs.declared.limits.Limits.{Limits}
use Rattle.lfm_mutex.specs.calls.Sight.{Sight}
use Rattle.lfm_plain_condvar.specs.declared.waiters.Waiter.{Waiter}
use Rattle.lfm_plain_condvar.specs.declared.waiters.Waiters.{Waiters}
use Rattle.lfm_plain_condvar.specs.Keeping.{GoesOn, Is, Since, WaitersFollow}
use Rattle.lfm_plain_condvar.specs.Lists.{IsIn}
use Rattle.lfm_plain_condvar.specs.Waits.{LeftList, Listed, NoLonger}

-- the waiter is in the list
abbrev pub Waits : Waiter → Waiters → Type 0
Waits x v = IsIn x v.list.items

-- how any seats may have changed the list
abbrev pub Changed : Waiters → Waiters → Type 0
Changed = GoesOn (λ k. Unit {0})

-- One seat after another changed the list from v to w in a hold. Each list of the path is paired with the number of the seat
-- that left it
abbrev pub ChangedBy : List (ℕ × Waiters) → Waiters → Waiters → Type 0
ChangedBy [] v w = v ≡ w
ChangedBy (p ∷ ps) v w = WaitersFollow p.0 v p.1 × ChangedBy ps p.1 w

-- the tickets rise from above k
abbrev pub Rise : ℕ → List Waiter → Type 0
Rise k [] = Unit {0}
Rise k (x ∷ xs) = (k < x.ticket) × Rise x.ticket xs

-- the waiter is one of those that were woken, or of those whose time was over
abbrev pub HasEnded : (v w : Waiters) → Changed v w → Waiter → Type 0
HasEnded v w g x = IsIn x g.woken ⊎ IsIn x g.left

-- what has become of each ticket of v
pub record Ends (v w : Waiters) (g : Changed v w) : Type 0 where
  -- a waiter of v still waits, or was woken, or its time was over
  pub still : (x : Waiter) → Waits x v → Waits x w ⊎ HasEnded v w g x
  -- its ticket is that of no other waiter and no other seat, neither in w nor among those that have ended
  pub keeps : (x y : Waiter) → Waits x v → Waits y w ⊎ HasEnded v w g y → y.ticket ≡ x.ticket → y ≡ x
  -- tickets were woken in order, before each that still waits, and none was woken twice
  pub woken_rise : Rise 0 g.woken
  pub in_order : (x y : Waiter) → IsIn x g.woken → Waits y w → x.ticket < y.ticket
  -- no time was over twice, and a ticket whose time was over doesn't wait any more
  pub left_rise : Rise 0 g.left
  pub left_once : (x y : Waiter) → IsIn x g.left → Waits y w → y.ticket ≢ x.ticket
  -- no ticket was both woken and timed out
  pub not_both : (x y : Waiter) → IsIn x g.woken → IsIn y g.left → y.ticket ≢ x.ticket

-- a ticket that has ended never ends again, and tickets that are woken later are later tickets
pub record EndOnce (u v w : Waiters) (g : Changed u v) (h : Changed v w) : Type 0 where
  pub once : (x y : Waiter) → HasEnded u v g x → HasEnded v w h y → y.ticket ≢ x.ticket
  pub in_order : (x y : Waiter) → IsIn x g.woken → IsIn y h.woken → x.ticket < y.ticket

-- A wait was listed from the sight c to the sight e, and in its second hold, from e to d, it didn't find itself: then it was
-- woken
abbrev pub NoLongerIsWoken : Type 0
NoLongerIsWoken = (own : Limits) (tries ticket : ℕ) (c e d : Sight Waiters) → Listed own tries c e ticket → NoLonger own tries e d ticket
    → (v : Waiters) × (w : Waiters) × (e.last ≡ Some v) × (d.found ≡ Some w) × (g : Since c.number v w) × (x : Waiter) × Is c.number ticket x × Waits x v × IsIn x g.woken

-- the same, but it found itself: then it was not woken
abbrev pub TimedOutIsNotWoken : Type 0
TimedOutIsNotWoken = (own : Limits) (tries ticket : ℕ) (c e d : Sight Waiters) → Listed own tries c e ticket → LeftList own tries e d ticket
    → (v : Waiters) × (w : Waiters) × (e.last ≡ Some v) × (d.found ≡ Some w) × (g : Since c.number v w) × ((x : Waiter) → IsIn x g.woken → x.ticket ≢ ticket)

pub record TicketsKeepTheirPlaces : Type 0 where
  -- whichever seats changed the list, one after another
  pub later : (path : List (ℕ × Waiters)) (v w : Waiters) → ChangedBy path v w → Changed v w
  pub ends : (v w : Waiters) (g : Changed v w) → Ends v w g
  pub once : (u v w : Waiters) (g : Changed u v) (h : Changed v w) → EndOnce u v w g h
  -- the time of a wait is over only by its own seat
  pub own : (s : ℕ) (v w : Waiters) (g : Since s v w) (x : Waiter) → Waits x v → x.waker.number ≡ s → Waits x w ⊎ IsIn x g.woken
  pub no_longer : NoLongerIsWoken
  pub timed_out : TimedOutIsNotWoken
