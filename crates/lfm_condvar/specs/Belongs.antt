-- What belongs to a condvar, and the sights of its seats. Contracts refer to a condvar and its seats only by these definitions.
use Rattle.std.specs.Prelude.{◌≡◌, ℕ, List}
use Rattle.lfm_protocol.specs.declared.limits.Limits.{Limits}
use Rattle.lfm_mutex.specs.Belongs.{OfMutex, limits_of, tries_of}
use Rattle.lfm_mutex.specs.calls.RunGoesOn.{Action, past_of}
use Rattle.lfm_mutex.specs.calls.Sight.{Sight, sight}
use Rattle.lfm_mutex.specs.calls.Woken.{PollsAndWakesAsGranted}
use Rattle.lfm_condvar.specs.declared.condvar.Condvar.{Condvar}
use Rattle.lfm_condvar.specs.declared.cond_seat.CondSeat.{CondSeat}
use Rattle.lfm_condvar.specs.declared.waiters.Waiters.{Waiters}
use Rattle.lfm_condvar.specs.Holds.{MadeFor}

-- how many seats the condvar has, and how many waits and wakes each of them may make
abbrev pub cond_limits : Condvar → Limits
cond_limits v = limits_of v.inner

-- the greatest number of tries that a cond seat makes before it queues for the list
abbrev pub cond_tries : Condvar → ℕ
cond_tries v = tries_of v.inner

-- the sight of a cond seat
abbrev pub cond_sight : CondSeat → Sight Waiters
cond_sight c = sight c.seat

-- the actions of all cond seats that it knows: the run of the inner mutex up to its own last step, after which only others have
-- acted
abbrev pub cond_past : CondSeat → List Action
cond_past c = past_of c.seat

-- from one to the other, the cond seat has woken exactly those that it granted the list, in order; it may have polled, since each
-- call that needs the list may wait for it
abbrev pub CondWokenAsGranted : CondSeat → CondSeat → Type 0
CondWokenAsGranted c d = PollsAndWakesAsGranted c.seat d.seat

-- the cond seat belongs to the condvar
abbrev pub OfCondvar : CondSeat → Condvar → Type 0
OfCondvar c v = OfMutex c.seat v.inner × MadeFor (limits_of v.inner) (sight c.seat)

-- both are the same condvar
abbrev pub SameCondvar : Condvar → Condvar → Type 0
SameCondvar u v = (v.inner ≡ u.inner) × (v.seats ≡ u.seats)
