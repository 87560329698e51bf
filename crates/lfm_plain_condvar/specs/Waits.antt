-- How waits end. The user seat has the sight s before and t after, and its mutex has the limits `user`. The plain seat has
-- the sight c before and d after; its list has the limits `own`. A seat tries at most `tries` times before it queues for the
-- list, and at most `user_tries` times before it queues for the user mutex.
use Rattle.std.specs.Prelude.{◌≡◌, ◌⊎◌, ℕ, ◌+◌, ◌-◌, ◌<◌, ◌≤◌, false, Result, Ok, Err}
use Rattle.lfm_model.specs.declared.answers.How.{How}
use Rattle.lfm_model.specs.declared.answers.Locked.{Locked}
use Rattle.lfm_model.specs.declared.refusals.Refusal.{Refusal}
use Rattle.lfm_protocol.specs.declared.limits.Limits.{Limits}
use Rattle.lfm_mutex.specs.declared.pace.Pace.{Pace}
use Rattle.lfm_mutex.specs.calls.Barging.{BargesBy, TriesFirst}
use Rattle.lfm_mutex.specs.calls.Sight.{Sight, Gains, LeavesOff, WaitRefused}
use Rattle.lfm_mutex.specs.calls.Trails.{LocksBy}
use Rattle.lfm_plain_condvar.specs.declared.hold.append.ListedWait.{ListedWait}
use Rattle.lfm_plain_condvar.specs.declared.parkers.Waker.{Waker}
use Rattle.lfm_plain_condvar.specs.declared.parkers.woken.Woken.{Woken}
use Rattle.lfm_plain_condvar.specs.declared.wait_for.Waited.{Waited}
use Rattle.lfm_plain_condvar.specs.declared.waiters.Waiter.{Waiter}
use Rattle.lfm_plain_condvar.specs.declared.waiters.Waiters.{Waiters}
use Rattle.lfm_plain_condvar.specs.Holds.{HeldOnce, StepsOfOneHold, Unlocks}
use Rattle.lfm_plain_condvar.specs.Keeping.{IsFull, NotListed, Puts, TakesOut}

-- one hold of the list, by the steps of one lock and one unlock, which found the list v and left the list w
abbrev pub OneHold : Limits → ℕ → Sight Waiters → Sight Waiters → Waiters → Waiters → Type 0
OneHold own tries c d v w = HeldOnce own.budget c d v w × StepsOfOneHold own tries c d

-- one hold that added the seat to the list, with this ticket
abbrev pub Listed : Limits → ℕ → Sight Waiters → Sight Waiters → ℕ → Type 0
Listed own tries c d ticket = (v : Waiters) × (w : Waiters) × (k : Waker) × (k.number ≡ c.number) × Puts k ticket v w × OneHold own tries c d v w

-- one hold that took the seat out of the list again, in which it stood with this ticket: no wake had taken it out
abbrev pub LeftList : Limits → ℕ → Sight Waiters → Sight Waiters → ℕ → Type 0
LeftList own tries c d ticket = (v : Waiters) × (w : Waiters) × (x : Waiter) × (x.waker.number ≡ c.number) × (x.ticket ≡ ticket) × TakesOut x v w × OneHold own tries c d v w

-- one hold that didn't find the seat in the list: a wake had taken it out
abbrev pub NoLonger : Limits → ℕ → Sight Waiters → Sight Waiters → ℕ → Type 0
NoLonger own tries c d ticket = (v : Waiters) × NotListed c.number ticket v × OneHold own tries c d v v

-- one hold that found no room in the list, so the seat was not added to it
abbrev pub FindsFull : Limits → ℕ → Sight Waiters → Sight Waiters → Type 0
FindsFull own tries c d = (v : Waiters) × IsFull v × OneHold own tries c d v v

-- how the seat was added to the list. `back`: what is true if it was not
abbrev pub Enlists : {T : Type 0} → Limits → ℕ → Sight Waiters → Sight Waiters → Type 0 → Result (ListedWait T) Refusal → Type 0
Enlists own tries c d back (Ok l) = (l.number ≡ d.number) × Listed own tries c d l.enlisted.ticket
Enlists own tries c d back (Err r) = (r ≡ Refusal.Busy) × back × FindsFull own tries c d

-- how a sleep with a limit ends, from the sight c after the seat was added to the list
abbrev pub SleepEnds : Limits → ℕ → Sight Waiters → Sight Waiters → ℕ → Waited → Type 0
SleepEnds own tries c d ticket (Waited.Woken t) = (t ≡ ticket) × (d ≡ c ⊎ NoLonger own tries c d ticket)
SleepEnds own tries c d ticket (Waited.TimedOut t) = (t ≡ ticket) × LeftList own tries c d ticket

-- how a wait ended, without how the seat acquired the user mutex again
abbrev pub waited_of : Result (How × Waited) Refusal → Result Waited Refusal
waited_of (Ok r) = Ok r.1
waited_of (Err r) = Err r

module _ {T : Type 0} where
  -- the seat could wait
  abbrev pub MayWait : ℕ → Sight T → Type 0
  MayWait budget s = (s.asleep ≡ false) × (s.depth ≡ 1) × (s.takes < budget)

  -- How a seat that was woken in this way locks a mutex of this pace. Woken alone, it first makes the steps of a try, if the
  -- pace has spins. Woken with others, it makes the steps of a lock
  abbrev pub LocksAsWoken : Pace → Limits → Woken → Sight T → Sight T → Result Locked Refusal → Type 0
  LocksAsWoken pace user Woken.Alone s t r = 0 < pace.spins → TriesFirst user (pace.spins - 1 + pace.naps) s t r
  LocksAsWoken pace user Woken.WithOthers s t r = LocksBy user s t r

  -- the seat gave up its mutex by one unlock
  abbrev pub GivesUp : Limits → Sight T → Sight T → Type 0
  GivesUp user s t = LeavesOff s t × (t.takes ≡ s.takes) × Unlocks user s t

module _ {T : Type 0} (follows : ℕ → T → T → Type 0) (fits : T → ℕ → Type 0) where
  -- the seat acquired its mutex in this way, by the steps of one lock_barging. Those of a lock are among them, without a try
  abbrev pub ComesBackAs : Limits → ℕ → How → Sight T → Sight T → Type 0
  ComesBackAs user tries how s t = Gains follows fits user.budget how s t × BargesBy user tries s t (Ok (Locked.Held how))

  -- the seat gave up its mutex by one unlock, and acquired it again in this way
  abbrev pub GivesUpAndComesBackAs : Limits → ℕ → How → Sight T → Sight T → Type 0
  GivesUpAndComesBackAs user tries how s t = (m : Sight T) × GivesUp user s m × ComesBackAs user tries how m t

  -- the seat gave up its mutex by one unlock, and acquired it again
  abbrev pub GivesUpAndComesBack : Limits → ℕ → Sight T → Sight T → Type 0
  GivesUpAndComesBack user tries s t = (m : Sight T) × GivesUp user s m × ((how : How) × ComesBackAs user tries how m t)

  -- why a wait is refused that needs this number of takes of the plain seat
  abbrev pub Refuses : Limits → Limits → ℕ → ℕ → Sight Waiters → Sight Waiters → Sight T → Sight T → Refusal → Type 0
  Refuses user own needs tries c d s t Refusal.Spent = (s.asleep ≡ false) × (s.depth ≡ 1) × (user.budget ≤ s.takes ⊎ (own.budget < c.takes + needs)) × (d ≡ c) × (t ≡ s)
  Refuses user own needs tries c d s t Refusal.Busy = FindsFull own tries c d × (t ≡ s)
  Refuses user own needs tries c d s t r = WaitRefused user.budget s r × (d ≡ c) × (t ≡ s)

  -- How wait ends. In one hold of the list the seat was added to it. Then it gave the user mutex up and came back. By the
  -- contract of `append_in_one_hold` it was added while the user seat held its mutex
  abbrev pub WaitEnds : Limits → Limits → ℕ → ℕ → Sight Waiters → Sight Waiters → Sight T → Sight T → Result ℕ Refusal → Type 0
  WaitEnds user own tries user_tries c d s t (Ok ticket) = Listed own tries c d ticket × GivesUpAndComesBack user user_tries s t
  WaitEnds user own tries user_tries c d s t (Err r) = Refuses user own 1 tries c d s t r

  -- the same for wait_with_how, which also returns how the seat acquired the user mutex again
  abbrev pub WaitWithHowEnds : Limits → Limits → ℕ → ℕ → Sight Waiters → Sight Waiters → Sight T → Sight T → Result (How × ℕ) Refusal → Type 0
  WaitWithHowEnds user own tries user_tries c d s t (Ok r) = Listed own tries c d r.1 × GivesUpAndComesBackAs user user_tries r.0 s t
  WaitWithHowEnds user own tries user_tries c d s t (Err r) = Refuses user own 1 tries c d s t r

  -- How wait_for ends. Woken: as wait, and maybe a second hold found that a wake had taken the seat out of the list.
  -- TimedOut: a second hold took it out of the list. In both cases two takes of the plain seat were left before
  abbrev pub WaitForEnds : Limits → Limits → ℕ → ℕ → Sight Waiters → Sight Waiters → Sight T → Sight T → Result Waited Refusal → Type 0
  WaitForEnds user own tries user_tries c d s t (Ok (Waited.Woken ticket)) =
      (e : Sight Waiters) × Listed own tries c e ticket × (d ≡ e ⊎ NoLonger own tries e d ticket) × GivesUpAndComesBack user user_tries s t × (c.takes + 2 ≤ own.budget)
  WaitForEnds user own tries user_tries c d s t (Ok (Waited.TimedOut ticket)) =
      (e : Sight Waiters) × Listed own tries c e ticket × LeftList own tries e d ticket × GivesUpAndComesBack user user_tries s t × (c.takes + 2 ≤ own.budget)
  WaitForEnds user own tries user_tries c d s t (Err r) = Refuses user own 2 tries c d s t r

  -- the same for wait_within, which also returns how the seat acquired the user mutex again
  abbrev pub WaitWithinEnds : Limits → Limits → ℕ → ℕ → Sight Waiters → Sight Waiters → Sight T → Sight T → Result (How × Waited) Refusal → Type 0
  WaitWithinEnds user own tries user_tries c d s t (Ok r) =
      (ticket : ℕ) × (e : Sight Waiters) × Listed own tries c e ticket × SleepEnds own tries e d ticket r.1 × GivesUpAndComesBackAs user user_tries r.0 s t × (c.takes + 2 ≤ own.budget)
  WaitWithinEnds user own tries user_tries c d s t (Err r) = Refuses user own 2 tries c d s t r
