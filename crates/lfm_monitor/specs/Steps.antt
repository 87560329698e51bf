-- The atomic steps of a monitor's calls: each call makes those of one call of the mutex, on the pass's seat.
use Rattle.std.specs.Prelude.{◌≡◌, ℕ, zero, suc, Result, Ok, Err}
use Rattle.lfm_model.specs.declared.answers.Locked.{Locked}
use Rattle.lfm_model.specs.declared.answers.Unlocked.{Unlocked}
use Rattle.lfm_model.specs.declared.refusals.Refusal.{Refusal}
use Rattle.lfm_protocol.specs.declared.answers.Answer.{Answer}
use Rattle.lfm_protocol.specs.declared.answers.Answer.TheVariants as Answered
use Rattle.lfm_protocol.specs.declared.answers.Call.{Call}
use Rattle.lfm_protocol.specs.declared.answers.Turn.TheVariants.{Ended, Refused}
use Rattle.lfm_protocol.specs.declared.answers.Why.{Why}
use Rattle.lfm_protocol.specs.declared.limits.Limits.{Limits}
use Rattle.lfm_mutex.specs.calls.Barging.{BargesBy}
use Rattle.lfm_mutex.specs.calls.Sight.{Sight}
use Rattle.lfm_mutex.specs.calls.Trails.{Makes, LocksBy}
use Rattle.lfm_monitor.specs.declared.enter.Locking.{Locking}

module _ {T : Type 0} (l : Limits) where
  -- the seat has made the steps of this call of the mutex, and the result is that of the last step; a call refused as Busy has
  -- made them too, and a call refused otherwise has made none
  abbrev pub BySteps : {A : Type 0} → (A → Answer) → Call → Sight T → Sight T → Result A Refusal → Type 0
  BySteps answer call s t (Ok a) = Makes l call s t (Ended (answer a))
  BySteps answer call s t (Err Refusal.Busy) = (cause : Why) × Makes l call s t (Refused cause)
  BySteps answer call s t (Err r) = t ≡ s

  -- the same for lock, whose steps are those of ask and of the receives after it
  abbrev pub ByLocking : Sight T → Sight T → Result Locked Refusal → Type 0
  ByLocking s t (Ok locked) = LocksBy l s t (Ok locked)
  ByLocking s t (Err r) = t ≡ s

  -- the same for lock_barging, which makes at most n tries before it queues
  abbrev pub ByBarging : ℕ → Sight T → Sight T → Result Locked Refusal → Type 0
  ByBarging n s t (Ok locked) = BargesBy l n s t (Ok locked)
  ByBarging n s t (Err r) = t ≡ s

  -- the steps of a lock made in the given way
  abbrev pub ByLockingAs : Locking → ℕ → Sight T → Sight T → Result Locked Refusal → Type 0
  ByLockingAs Locking.InOrder n s t r = ByLocking s t r
  ByLockingAs Locking.Barging n s t r = ByBarging n s t r

  -- the seat has made the steps of this number of unlocks, one after another, and no others
  abbrev pub ByUnlocks : ℕ → Sight T → Sight T → Type 0
  ByUnlocks zero s t = t ≡ s
  ByUnlocks (suc n) s t = (u : Sight T) × (x : Unlocked) × ByUnlocks n s u × BySteps (λ y. Answered.Unlocked y) Call.Unlock u t (Ok x)
