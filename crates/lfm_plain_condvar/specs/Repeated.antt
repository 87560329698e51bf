-- How `wait_while` ends. The user seat has the sight s before and t after, and its mutex has the limits `user`. The plain
-- seat has the sight c before and d after; its list has the limits `own`. A seat tries at most `tries` times before it
-- queues for the list, and at most `user_tries` times before it queues for the user mutex. `says v b`: the condition may
-- return b for the value v.
use Rattle.std.specs.Prelude.{◌≡◌, ℕ, zero, suc, ⊤, Bool, Result, Ok, Err}
use Rattle.lfm_model.specs.declared.refusals.Refusal.{Refusal}
use Rattle.lfm_protocol.specs.declared.limits.Limits.{Limits}
use Rattle.lfm_mutex.specs.Conditions.{NeedNotWait, WouldWait}
use Rattle.lfm_mutex.specs.calls.Sight.{Sight}
use Rattle.lfm_plain_condvar.specs.declared.waiters.Waiters.{Waiters}
use Rattle.lfm_plain_condvar.specs.Waits.{WaitEnds}

module _ {T : Type 0} (follows : ℕ → T → T → Type 0) (fits : T → ℕ → Type 0) (user own : Limits) (tries user_tries : ℕ) (says : T → Bool → Type 0) where
  -- this number of waits, before each of which the condition was true
  abbrev pub AllWaited : ℕ → Sight Waiters → Sight Waiters → Sight T → Sight T → Type 0
  AllWaited zero c d s t = (d ≡ c) × (t ≡ s)
  AllWaited (suc n) c d s t =
      (e : Sight Waiters) × (m : Sight T) × (ticket : ℕ) × AllWaited n c e s m × WouldWait says m × WaitEnds follows fits user own tries user_tries e d m t (Ok ticket)

  abbrev pub WaitWhileEnds : Sight Waiters → Sight Waiters → Sight T → Sight T → Result ⊤ Refusal → Type 0
  WaitWhileEnds c d s t (Ok x) = (n : ℕ) × AllWaited n c d s t × NeedNotWait says t
  WaitWhileEnds c d s t (Err r) = (n : ℕ) × (e : Sight Waiters) × (m : Sight T) × AllWaited n c e s m × WouldWait says m × WaitEnds follows fits user own tries user_tries e d m t (Err r)
