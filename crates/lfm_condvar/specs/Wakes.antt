-- How `send_oldest`, `wake_one` and `wake_all` end. The user seat has the sight s before and t after, and its mutex has n
-- seats.
use Rattle.std.specs.Prelude.{◌≡◌, ℕ, ◌≤◌, List, [], ◌∷◌, ◌++◌, true, false, Option, Some, None, Result, Ok, Err, length, map}
use Rattle.lfm_model.specs.declared.refusals.Refusal.{Refusal}
use Rattle.lfm_protocol.specs.declared.answers.Answer.{Answer}
use Rattle.lfm_protocol.specs.declared.answers.Call.{Call}
use Rattle.lfm_protocol.specs.declared.answers.Turn.TheVariants.{Ended, Refused}
use Rattle.lfm_protocol.specs.declared.answers.Why.{Why}
use Rattle.lfm_protocol.specs.declared.limits.Limits.{Limits}
use Rattle.lfm_mutex.specs.calls.Sight.{Sight, Sends}
use Rattle.lfm_mutex.specs.calls.Trails.{Makes}
use Rattle.lfm_condvar.specs.declared.waiters.Waiter.{Waiter}
use Rattle.lfm_condvar.specs.declared.waiters.Waiters.{Waiters}
use Rattle.lfm_condvar.specs.Holds.{StepsOfOneHold, HeldOnce}
use Rattle.lfm_condvar.specs.Keeping.{Taken}
use Rattle.lfm_condvar.specs.Lists.{waiter}

module _ {T : Type 0} where
  -- the oldest in the list was not waiting to be sent
  abbrev pub OldestNotWaiting : ℕ → Sight T → Sight T → Waiters → Type 0
  OldestNotWaiting n s t v = (x : Waiter) × (rest : List Waiter) × (v.list.items ≡ x ∷ rest) × Sends n s x.seat t (Err Refusal.NotWaiting)

  -- how send_oldest ends, when it changes the list v to w
  abbrev pub SendsOldest : ℕ → Sight T → Sight T → Waiters → Waiters → Result (Option (ℕ × ℕ)) Refusal → Type 0
  SendsOldest n s t v w (Ok None) = (s.asleep ≡ false) × (v.list.items ≡ []) × (w ≡ v) × (t ≡ s)
  SendsOldest n s t v w (Ok (Some p)) = Taken (waiter p.0 p.1 ∷ []) v w × (p.1 ≡ w.sent) × Sends n s p.0 t (Ok tt)
  SendsOldest n s t v w (Err Refusal.Asleep) = (s.asleep ≡ true) × (w ≡ v) × (t ≡ s)
  SendsOldest n s t v w (Err Refusal.NotWaiting) = (w ≡ v) × OldestNotWaiting n s t v
  SendsOldest n s t v w (Err r) = ⊥

  -- the seat has sent these waiters, in order, and done nothing else
  abbrev pub SentEach : List Waiter → Sight T → Sight T → Type 0
  SentEach gone s t = t ≡ record s { trail = t.trail; sends = s.sends ++ map (λ (x : Waiter). x.seat) gone }

  -- how a send of all that wait ends, when it changes the list v to w
  abbrev pub SendsAll : ℕ → Sight T → Sight T → Waiters → Waiters → Result ℕ Refusal → Type 0
  SendsAll n s t v w (Ok k) = (k ≡ length v.list.items) × (w.list.items ≡ []) × Taken v.list.items v w × SentEach v.list.items s t × (s.asleep ≡ false)
  SendsAll n s t v w (Err Refusal.NotWaiting) = (gone : List Waiter) × (m : Sight T) × Taken gone v w × SentEach gone s m × OldestNotWaiting n m t w
  SendsAll n s t v w (Err r) = ⊥

  -- One send_lock after another, for these seats in order. Each seat is paired with the sender's sight after its send
  abbrev pub SendsInTurn : Limits → Sight T → List (ℕ × Sight T) → Sight T → Type 0
  SendsInTurn user s [] t = t ≡ s
  SendsInTurn user s (x ∷ xs) t = Sends user.seats s x.0 x.1 (Ok tt) × Makes user (Call.SendLock x.0) s x.1 (Ended Answer.Sent) × SendsInTurn user x.1 xs t

  -- The steps of a call that sends and ends with this result: those of some sends, and then, if the call is refused as
  -- NotWaiting, those of the send that was refused. A call that is refused otherwise has made no step
  abbrev pub SendsBy : {A : Type 0} → Limits → Sight T → Sight T → Result A Refusal → Type 0
  SendsBy user s t (Ok a) = (sent : List (ℕ × Sight T)) × SendsInTurn user s sent t
  SendsBy user s t (Err Refusal.NotWaiting) =
      (sent : List (ℕ × Sight T)) × (m : Sight T) × (x : ℕ) × (cause : Why) × SendsInTurn user s sent m × Makes user (Call.SendLock x) m t (Refused cause)
  SendsBy user s t (Err r) = t ≡ s

  -- How the wakes end. The cond seat has the sight c before and d after, its condvar has the limits `own`, and it makes at most
  -- `tries` tries before it queues for the list

  -- refused before the inner mutex was locked
  abbrev pub WakeRefused : Limits → Sight Waiters → Sight Waiters → Sight T → Sight T → Refusal → Type 0
  WakeRefused own c d s t Refusal.Asleep = (s.asleep ≡ true) × (d ≡ c) × (t ≡ s)
  WakeRefused own c d s t Refusal.Spent = (s.asleep ≡ false) × (own.budget ≤ c.takes) × (d ≡ c) × (t ≡ s)
  WakeRefused own c d s t r = ⊥

  abbrev pub WakeOneEnds : ℕ → Limits → ℕ → Sight Waiters → Sight Waiters → Sight T → Sight T → Result (Option (ℕ × ℕ)) Refusal → Type 0
  WakeOneEnds n own tries c d s t (Err Refusal.Asleep) = WakeRefused own c d s t Refusal.Asleep
  WakeOneEnds n own tries c d s t (Err Refusal.Spent) = WakeRefused own c d s t Refusal.Spent
  WakeOneEnds n own tries c d s t r = (v : Waiters) × (w : Waiters) × HeldOnce own.budget c d v w × SendsOldest n s t v w r × StepsOfOneHold own tries c d

  abbrev pub WakeAllEnds : ℕ → Limits → ℕ → Sight Waiters → Sight Waiters → Sight T → Sight T → Result ℕ Refusal → Type 0
  WakeAllEnds n own tries c d s t (Err Refusal.Asleep) = WakeRefused own c d s t Refusal.Asleep
  WakeAllEnds n own tries c d s t (Err Refusal.Spent) = WakeRefused own c d s t Refusal.Spent
  WakeAllEnds n own tries c d s t r = (v : Waiters) × (w : Waiters) × HeldOnce own.budget c d v w × SendsAll n s t v w r × StepsOfOneHold own tries c d
