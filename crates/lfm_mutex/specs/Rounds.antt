-- The rounds that each seat makes in a thread of its own, and how they change the seat.
use Rattle.std.specs.Prelude.{◌≡◌, ◌⊎◌, ⊤, ℕ, zero, suc, ◌<◌, Result, Ok, Err}
use Rattle.std.specs.Fn.{Shared}
use Rattle.lfm_model.specs.declared.refusals.Refusal.{Refusal}
use Rattle.lfm_mutex.specs.declared.mutex.Mutex.{Mutex}
use Rattle.lfm_mutex.specs.declared.seat.Seat.{Seat}
use Rattle.lfm_mutex.specs.Belongs.{OfMutex}
use Rattle.lfm_mutex.specs.calls.Sections.{StandsAs}
use Rattle.lfm_mutex.specs.calls.Sight.{sight}
use denote.Ref.{MutBor}

module _ {F T : Type 0} (g : Shared F (ℕ × (MutBor (Seat T) × Unit {0})) (Result ⊤ Refusal × (MutBor (Seat T) × Unit {0}))) (f : F) where
  -- round i with the seat s may answer y and leave the seat t
  abbrev pub RoundGives : ℕ → Seat T → Result ⊤ Refusal → Seat T → Type 0
  RoundGives i s y t = (p : MutBor (Seat T)) × (q : MutBor (Seat T)) × (p.now ≡ s) × (q.now ≡ t) × g.post f (i, (p, tt)) (y, (q, tt))

  -- this number of rounds, from round 0 on and none of them refused, have led from the seat s to t
  abbrev pub RoundsLead : ℕ → Seat T → Seat T → Type 0
  RoundsLead zero s t = t ≡ s
  RoundsLead (suc n) s t = (m : Seat T) × RoundsLead n s m × RoundGives n m (Ok tt) t

  -- s has become t by this number of rounds, none refused, or by at most this number, of which only the last was refused
  abbrev pub RoundsEnd : ℕ → Seat T → Seat T → Type 0
  RoundsEnd rounds s t = RoundsLead rounds s t ⊎ ((n : ℕ) × (m : Seat T) × (r : Refusal) × (n < rounds) × RoundsLead n s m × RoundGives n m (Err r) t)

  module _ (rounds : ℕ) (mutex : Mutex T) where
    -- each round may be made with any seat of the mutex
    abbrev pub MayRound : Type 0
    MayRound = (i : ℕ) (p : MutBor (Seat T)) → i < rounds → OfMutex p.now mutex → g.pre f (i, (p, tt))

    -- each round leaves a seat of the mutex, with the same number and depth, which sleeps exactly if it slept before
    abbrev pub KeepsRound : Type 0
    KeepsRound = (i : ℕ) (p q : MutBor (Seat T)) (y : Result ⊤ Refusal) → i < rounds → OfMutex p.now mutex → g.post f (i, (p, tt)) (y, (q, tt)) → OfMutex q.now mutex × StandsAs (sight p.now) (sight q.now)

    -- s has become t by its rounds: t is a seat of the mutex, with the same number and depth, and sleeps exactly if s did
    abbrev pub HasRounded : Seat T → Seat T → Type 0
    HasRounded s t = OfMutex t mutex × StandsAs (sight s) (sight t) × RoundsEnd rounds s t
