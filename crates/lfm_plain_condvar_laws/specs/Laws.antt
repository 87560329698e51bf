-- The laws of waits on a plain condition variable.
use Rattle.std.specs.Prelude.{◌≡◌, ◌⊎◌, ℕ, ◌+◌, ◌<◌, ◌≤◌, ◌==◌, if◌then◌else◌, List, [], ◌∷◌, length}
use Rattle.lfm_plain_condvar_laws.specs.Events.{Event, Run, enlists, finds_none, leaves, returns, wakes}
use Rattle.lfm_plain_condvar_laws.specs.Waits.{InOrder, IsIn, Waiter, Waits, WasTaken, everywhere, none_yet, waits_of}

-- Each ticket that was given is in one place once: in the list, on its way, or with the waits that were woken or timed out.
-- No other ticket is anywhere
pub record TicketsAreInOnePlace : Type 0 where
  pub given : (es : List Event) (w : Waits) → Run es none_yet w → (t : ℕ) → 0 < t → t ≤ w.added → everywhere t w ≡ 1
  pub others : (es : List Event) (w : Waits) → Run es none_yet w → (t : ℕ) → (t ≡ 0) ⊎ (w.added < t) → everywhere t w ≡ 0

-- how many of the events are wakes that found somebody, and how many are ends of time limits
abbrev pub wakes_in : List Event → ℕ
wakes_in [] = 0
wakes_in (wakes ∷ es) = 1 + wakes_in es
wakes_in (enlists s ∷ es) = wakes_in es
wakes_in (finds_none ∷ es) = wakes_in es
wakes_in (leaves s ∷ es) = wakes_in es
wakes_in (returns s ∷ es) = wakes_in es

abbrev pub limits_in : List Event → ℕ
limits_in [] = 0
limits_in (wakes ∷ es) = limits_in es
limits_in (enlists s ∷ es) = limits_in es
limits_in (finds_none ∷ es) = limits_in es
limits_in (leaves s ∷ es) = 1 + limits_in es
limits_in (returns s ∷ es) = limits_in es

-- how many of the events are ends of the time limits of this seat, and how many are returns of this seat
abbrev pub limits_of : ℕ → List Event → ℕ
limits_of k [] = 0
limits_of k (wakes ∷ es) = limits_of k es
limits_of k (enlists s ∷ es) = limits_of k es
limits_of k (finds_none ∷ es) = limits_of k es
limits_of k (leaves s ∷ es) = (if s == k then 1 else 0) + limits_of k es
limits_of k (returns s ∷ es) = limits_of k es

abbrev pub returns_of : ℕ → List Event → ℕ
returns_of k [] = 0
returns_of k (wakes ∷ es) = returns_of k es
returns_of k (enlists s ∷ es) = returns_of k es
returns_of k (finds_none ∷ es) = returns_of k es
returns_of k (leaves s ∷ es) = returns_of k es
returns_of k (returns s ∷ es) = (if s == k then 1 else 0) + returns_of k es

-- Waiters are in the list in the order of their tickets, and a wake takes out the oldest: whoever still waits has a later
-- ticket than each that a wake took out
pub record WakesTakeTheOldest : Type 0 where
  pub listed : (es : List Event) (w : Waits) → Run es none_yet w → InOrder w.added 0 w.listed
  pub oldest : (es : List Event) (w : Waits) (x y : Waiter) → Run es none_yet w → WasTaken x w → IsIn y w.listed → x.ticket < y.ticket

-- No wake misses its waiter: a waiter that was taken out stays on its way until it returns as woken, and stays so. So each
-- wait that ended was ended by one wake or by its limit: there are as many of them as of these events
pub record WaitsEndByWakesOrLimits : Type 0 where
  -- a waiter in the list stays there, with its seat and its ticket, until a wake or its time takes it out
  pub stays_listed : (es : List Event) (v w : Waits) (x : Waiter) → Run es v w → IsIn x v.listed → IsIn x w.listed ⊎ (WasTaken x w ⊎ IsIn x w.timed_out)
  pub on_its_way : (es : List Event) (v w : Waits) (x : Waiter) → Run es v w → IsIn x v.owed → IsIn x w.owed ⊎ IsIn x w.woken
  pub stays_woken : (es : List Event) (v w : Waits) (x : Waiter) → Run es v w → IsIn x v.woken → IsIn x w.woken
  pub stays_timed_out : (es : List Event) (v w : Waits) (x : Waiter) → Run es v w → IsIn x v.timed_out → IsIn x w.timed_out
  pub by_wakes : (es : List Event) (w : Waits) → Run es none_yet w → wakes_in es ≡ length w.owed + length w.woken
  pub by_limits : (es : List Event) (w : Waits) → Run es none_yet w → limits_in es ≡ length w.timed_out
  -- the waits of a seat time out by its own limits alone, and are woken by its own returns
  pub by_own_limits : (es : List Event) (w : Waits) (k : ℕ) → Run es none_yet w → limits_of k es ≡ waits_of k w.timed_out
  pub by_own_returns : (es : List Event) (w : Waits) (k : ℕ) → Run es none_yet w → returns_of k es ≡ waits_of k w.woken
