-- How `enlist`, `begin_wait` and `wait` end. The user seat has the sight s before and t after, and its mutex has the limits
-- `user`.
use Rattle.std.specs.Prelude.{◌≡◌, ◌⊎◌, ℕ, ◌+◌, ◌<◌, ◌≤◌, false, Result, Ok, Err}
use Rattle.lfm_model.specs.declared.answers.How.{How}
use Rattle.lfm_model.specs.declared.answers.Unlocked.{Unlocked}
use Rattle.lfm_model.specs.declared.refusals.Refusal.{Refusal}
use Rattle.lfm_protocol.specs.declared.answers.Answer.{Answer}
use Rattle.lfm_protocol.specs.declared.answers.Call.{Call}
use Rattle.lfm_protocol.specs.declared.limits.Limits.{Limits}
use Rattle.lfm_mutex.specs.calls.Sight.{Sight, StartsWait, WaitRefused, TakesUp}
use Rattle.lfm_mutex.specs.calls.Trails.{MakesAtMost, MakesCall, ReceivesBy}
use Rattle.lfm_condvar.specs.declared.cond_seat.hold.enlist.Enlisted.{Enlisted}
use Rattle.lfm_condvar.specs.declared.waiters.Waiters.{Waiters}
use Rattle.lfm_condvar.specs.Holds.{StepsOfOneHold, HeldOnce}
use Rattle.lfm_condvar.specs.Keeping.{Appended}
use Rattle.lfm_condvar.specs.Lists.{times}

-- the ticket of a seat that was added to the list, or why it was refused
abbrev pub ticket_of : Result Enlisted Refusal → Result ℕ Refusal
ticket_of (Ok e) = Ok e.ticket
ticket_of (Err r) = Err r

module _ {T : Type 0} where
  -- the seat could make start_wait
  abbrev pub MayWait : ℕ → Sight T → Type 0
  MayWait budget s = (s.asleep ≡ false) × (s.depth ≡ 1) × (s.takes < budget)

  -- the seat gave up its mutex and fell asleep, by the steps of start_wait alone
  abbrev pub FallsAsleep : Limits → Sight T → Sight T → Type 0
  FallsAsleep user s t = (u : Unlocked) × StartsWait user.budget s t (Ok u) × MakesCall user (λ x. Answer.Waiting x) Call.StartWait s t (Ok u) × MakesAtMost (user.seats + 8) s t

  -- how enlist ends for the cond seat `by`, when it changes the list v to w
  abbrev pub Enlists : Limits → ℕ → Sight T → Sight T → Waiters → Waiters → Result ℕ Refusal → Type 0
  Enlists user by s t v w (Ok ticket) = Appended by s.number v w × (ticket ≡ w.added) × FallsAsleep user s t
  Enlists user by s t v w (Err Refusal.NoSuchSeat) = MayWait user.budget s × (v.seats < s.number) × (w ≡ v) × (t ≡ s)
  Enlists user by s t v w (Err Refusal.Busy) = MayWait user.budget s × (s.number ≤ v.seats) × (0 < times s.number v.list.items) × (w ≡ v) × (t ≡ s)
  Enlists user by s t v w (Err r) = WaitRefused user.budget s r × (w ≡ v) × (t ≡ s)

  -- How begin_wait ends. The cond seat has the sight c before and d after, its condvar has the limits `own`, and it makes at
  -- most `tries` tries before it queues for the list. In one hold, which has ended, the user seat was appended to the list. It
  -- sleeps. This does not state that start_wait was made within that hold
  abbrev pub BeginWaitEnds : Limits → Limits → ℕ → Sight Waiters → Sight Waiters → Sight T → Sight T → Result ℕ Refusal → Type 0
  BeginWaitEnds user own tries c d s t (Ok ticket) = (v : Waiters) × (w : Waiters) × HeldOnce own.budget c d v w × Enlists user c.number s t v w (Ok ticket) × StepsOfOneHold own tries c d
  BeginWaitEnds user own tries c d s t (Err Refusal.Spent) = (s.asleep ≡ false) × (s.depth ≡ 1) × (user.budget ≤ s.takes ⊎ (own.budget ≤ c.takes)) × (d ≡ c) × (t ≡ s)
  BeginWaitEnds user own tries c d s t (Err Refusal.NoSuchSeat) = MayWait user.budget s × (c.takes < own.budget) × (own.seats < s.number) × (d ≡ c) × (t ≡ s)
  BeginWaitEnds user own tries c d s t (Err Refusal.Busy) = (v : Waiters) × (w : Waiters) × HeldOnce own.budget c d v w × Enlists user c.number s t v w (Err Refusal.Busy) × StepsOfOneHold own tries c d
  BeginWaitEnds user own tries c d s t (Err r) = WaitRefused user.budget s r × (d ≡ c) × (t ≡ s)

module _ {T : Type 0} (follows : ℕ → T → T → Type 0) (fits : T → ℕ → Type 0) where
  -- the seat slept and now holds, by receives alone
  abbrev pub ComesBack : Limits → How → Sight T → Sight T → Type 0
  ComesBack user how s t = TakesUp follows fits how s t × ReceivesBy user s t (Ok how)

  -- How wait ends: it is refused as begin_wait is, or it consists of begin_wait, after which the user seat has the sight m, and
  -- receives
  abbrev pub WaitEnds : Limits → Limits → ℕ → Sight Waiters → Sight Waiters → Sight T → Sight T → Result (How × ℕ) Refusal → Type 0
  WaitEnds user own tries c d s t (Ok r) = (m : Sight T) × BeginWaitEnds user own tries c d s m (Ok r.1) × ComesBack user r.0 m t
  WaitEnds user own tries c d s t (Err r) = BeginWaitEnds user own tries c d s t (Err r)
