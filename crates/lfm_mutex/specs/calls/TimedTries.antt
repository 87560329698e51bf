-- How try_lock_for ends, and its steps: tries, one after another.
use Rattle.std.specs.Prelude.{◌≡◌, ℕ, Some, None, Result, Ok, Err}
use Rattle.lfm_model.specs.declared.answers.Locked.{Locked}
use Rattle.lfm_model.specs.declared.refusals.Refusal.{Refusal}
use Rattle.lfm_protocol.specs.declared.answers.Answer.{Answer}
use Rattle.lfm_protocol.specs.declared.answers.Call.{Call}
use Rattle.lfm_protocol.specs.declared.limits.Limits.{Limits}
use Rattle.lfm_mutex.specs.calls.Barging.{FailedTry, MayTry, TriesBy}
use Rattle.lfm_mutex.specs.calls.Sight.{Sight, Deepens, Gains, LockRefused}
use Rattle.lfm_mutex.specs.calls.Trails.{MakesCall}

module _ {T : Type 0} (follows : ℕ → T → T → Type 0) (fits : T → ℕ → Type 0) (l : Limits) where
  -- Held: some tries, of which the last succeeded and all others failed. Again: the steps of one try_lock. Busy: the seat could
  -- try, and made at least one try, and all failed. Each other refusal is that of lock, and no step was made.
  abbrev pub LocksInTime : Sight T → Sight T → Result Locked Refusal → Type 0
  LocksInTime s t (Ok (Locked.Held how)) = Gains follows fits l.budget how s t × ((n : ℕ) × TriesBy l n s t (Some how))
  LocksInTime s t (Ok (Locked.Again d)) = Deepens s t d × MakesCall l (λ x. Answer.Locked x) Call.TryLock s t (Ok (Locked.Again d))
  LocksInTime s t (Err Refusal.Busy) = MayTry l.budget s × ((m : Sight T) × FailedTry l s m × ((n : ℕ) × TriesBy l n m t None))
  LocksInTime s t (Err r) = LockRefused l.budget s r × (t ≡ s)
