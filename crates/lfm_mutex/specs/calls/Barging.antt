-- The steps of lock_barging: failed tries, and then a successful one or the steps of lock.
use Rattle.std.specs.Prelude.{◌≡◌, ◌⊎◌, ⊤, ℕ, ◌<◌, ◌≤◌, List, [], ◌∷◌, ◌++◌, length, false, Option, Some, None, Result, Ok, Err}
use Rattle.lfm_model.specs.declared.answers.How.{How}
use Rattle.lfm_model.specs.declared.answers.Locked.{Locked}
use Rattle.lfm_model.specs.declared.refusals.Refusal.{Refusal}
use Rattle.lfm_protocol.specs.declared.answers.Answer.{Answer}
use Rattle.lfm_protocol.specs.declared.answers.Call.{Call}
use Rattle.lfm_protocol.specs.declared.answers.Turn.TheVariants.{Ended}
use Rattle.lfm_protocol.specs.declared.limits.Limits.{Limits}
use Rattle.lfm_mutex.specs.calls.Sight.{Sight, BusySeen, Gains}
use Rattle.lfm_mutex.specs.calls.Trails.{Seen, LocksBy, Makes, MakesCall}

-- a try of the seat succeeds or is refused as Busy: the seat is awake, doesn't hold and has a take left
abbrev pub MayTry : {T : Type 0} → ℕ → Sight T → Type 0
MayTry budget s = (s.asleep ≡ false) × (s.depth ≡ 0) × (s.takes < budget)

-- if a try succeeded, the seat has acquired the mutex as by lock
abbrev pub GainsIf : {T : Type 0} → (ℕ → T → T → Type 0) → (T → ℕ → Type 0) → ℕ → Sight T → Sight T → Option How → Type 0
GainsIf follows fits budget s t None = ⊤
GainsIf follows fits budget s t (Some how) = Gains follows fits budget how s t

module _ {T : Type 0} (l : Limits) where
  -- A try that was refused as Busy. It has made the steps of try_lock, which found the count above 0, not this seat as the
  -- owner, and no post, or one that had gone when it was to be accepted. Its charge is given back, and the seat is as it was.
  pub record FailedTry (s t : Sight T) : Type 0 where
    pub same : t ≡ record s { trail = t.trail }
    pub finds : (new : List Seen) × (t.trail ≡ s.trail ++ new) × BusySeen s.number new
    pub makes : MakesCall l (λ x. Answer.Locked x) Call.TryLock s t (Err Refusal.Busy)

  -- the steps of a successful try
  abbrev pub TryHeld : Sight T → Sight T → How → Type 0
  TryHeld s t how = Makes l Call.TryLock s t (Ended (Answer.Locked (Locked.Held how)))

  -- failed tries, one after another. The list has the sight of the seat after each of them
  abbrev pub FailedTries : Sight T → List (Sight T) → Sight T → Type 0
  FailedTries s [] t = t ≡ s
  FailedTries s (m ∷ ms) t = FailedTry s m × FailedTries m ms t

  -- at most n tries, and no other steps: all of them failed, or all except the last
  abbrev pub TriesBy : ℕ → Sight T → Sight T → Option How → Type 0
  TriesBy n s t None = (ms : List (Sight T)) × (length ms ≤ n) × FailedTries s ms t
  TriesBy n s t (Some how) = (ms : List (Sight T)) × (m : Sight T) × (length ms < n) × FailedTries s ms m × TryHeld m t how

  -- The steps of lock_barging with at most n tries: a try succeeded; or all failed, and then the steps of lock were made. If it
  -- deepens a hold or is refused, it makes only the steps of lock.
  abbrev pub BargesBy : ℕ → Sight T → Sight T → Result Locked Refusal → Type 0
  BargesBy n s t (Ok (Locked.Held how)) = TriesBy n s t (Some how) ⊎ ((m : Sight T) × TriesBy n s m None × LocksBy l m t (Ok (Locked.Held how)))
  BargesBy n s t (Ok (Locked.Again d)) = LocksBy l s t (Ok (Locked.Again d))
  BargesBy n s t (Err refusal) = LocksBy l s t (Err refusal)

  -- The first steps of lock_barging are those of a try. Either the try succeeded, and no more steps were made; or it failed,
  -- and the rest is a lock_barging with at most n tries.
  abbrev pub TriesFirst : ℕ → Sight T → Sight T → Result Locked Refusal → Type 0
  TriesFirst n s t result =
      ((how : How) × (result ≡ Ok (Locked.Held how)) × TryHeld s t how) ⊎ ((m : Sight T) × FailedTry s m × BargesBy n m t result)
