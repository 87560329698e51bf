-- How one try_lock, and the tries after it, make one try_lock_for.
use Rattle.std.proofs.Common.{◌≡◌, ℕ, zero, ◌+◌, [], Some, None, Result, Ok, Err, refl, subst, arith}
use Rattle.lfm_model.specs.declared.answers.How.{How}
use Rattle.lfm_model.specs.declared.answers.Locked.{Locked}
use Rattle.lfm_model.specs.declared.refusals.Refusal.{Refusal}
use Rattle.lfm_protocol.specs.declared.answers.Answer.{Answer}
use Rattle.lfm_protocol.specs.declared.answers.Call.{Call}
use Rattle.lfm_protocol.specs.declared.limits.Limits.{Limits}
use Rattle.lfm_mutex.specs.calls.Barging.{GainsIf, MayTry, TriesBy}
use Rattle.lfm_mutex.specs.calls.Sight.{Sight, Locks}
use Rattle.lfm_mutex.specs.calls.TimedTries.{LocksInTime}
use Rattle.lfm_mutex.specs.calls.Trails.{MakesCall}
use Rattle.lfm_mutex.proofs.BargingEnds.{gains_after, no_tries, still_may_try, try_failed, tries_join}

module _ {T : Type 0} (follows : ℕ → T → T → Type 0) (fits : T → ℕ → Type 0) (l : Limits) where
  -- By cases on the answer.
  pub one_try : (s t : Sight T) (r : Result Locked Refusal) → Locks follows fits l.budget s t r → MakesCall l (λ x. Answer.Locked x) Call.TryLock s t r → LocksInTime follows fits l s t r
  one_try s t (Ok (Locked.Held how)) e made = (e, (1, ([], s, omega arith, refl, made)))
  one_try s t (Ok (Locked.Again d)) e made = (e, made)
  one_try s t (Err Refusal.Busy) e made = ((e.0, e.1, e.2), (t, record { same = e.3; finds = e.4; makes = made }, (zero, no_tries l zero t)))
  one_try s t (Err Refusal.Asleep) e made = e
  one_try s t (Err Refusal.DepthFull) e made = e
  one_try s t (Err Refusal.Spent) e made = e
  one_try s t (Err Refusal.NotOwner) e made = e
  one_try s t (Err Refusal.Nested) e made = e
  one_try s t (Err Refusal.NoSuchSeat) e made = e
  one_try s t (Err Refusal.NotWaiting) e made = e

  module _ (s m t : Sight T) (r : Refusal) (is : r ≡ Refusal.Busy) (locks : Locks follows fits l.budget s m (Err r)) (steps : MakesCall l (λ x. Answer.Locked x) Call.TryLock s m (Err r)) where
    busy : Locks follows fits l.budget s m (Err Refusal.Busy)
    busy = subst (λ (x : Refusal). Locks follows fits l.budget s m (Err x)) is locks

    made : MakesCall l (λ x. Answer.Locked x) Call.TryLock s m (Err Refusal.Busy)
    made = subst (λ (x : Refusal). MakesCall l (λ y. Answer.Locked y) Call.TryLock s m (Err x)) is steps

    may_try : MayTry l.budget s
    may_try = (busy.0, busy.1, busy.2)

    first : TriesBy l 1 s m None
    first = try_failed follows fits l s m Refusal.Busy may_try busy made

    -- a seat whose try was refused as Busy may try again
    pub may_try_on : MayTry l.budget m
    may_try_on = still_may_try l 1 s m first may_try

    pub then_held : (how : How) → GainsIf follows fits l.budget m t (Some how) → (n : ℕ) × TriesBy l n m t (Some how) → LocksInTime follows fits l s t (Ok (Locked.Held how))
    then_held how gains tries = (gains_after follows fits l 1 s m t (Some how) first gains, (1 + tries.0, tries_join l 1 tries.0 s m t (Some how) first tries.1))

    pub then_busy : (n : ℕ) × TriesBy l n m t None → LocksInTime follows fits l s t (Err Refusal.Busy)
    then_busy tries = (may_try, (m, record { same = busy.3; finds = busy.4; makes = made }, tries))
