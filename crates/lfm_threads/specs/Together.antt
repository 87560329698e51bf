-- What threads that are started together are given, and what they return.
use Rattle.std.specs.Prelude.{◌≡◌, ℕ, List}
use mathlib.Core.Option.{some}
use lib.ListN.{get_elem?}
use Rattle.lfm_threads.specs.declared.start_latch.StartSignal.{StartSignal}
use Rattle.lfm_threads.specs.declared.arrivals.Arrival.{Arrival}
use Rattle.lfm_threads.specs.declared.arrivals.Outcome.{Outcome}
use Rattle.lfm_threads.specs.declared.arrivals.Outcome.TheVariants.{Made, Kept}

-- each job may be started
abbrev pub AllTaken : {P : Type 0} → (P → Type 0) → List P → Type 0
AllTaken {P} takes jobs = (j : ℕ) (p : P) → get_elem? jobs j ≡ some p → takes p

module _ {P X : Type 0} (gives : P → X → Type 0) where
  -- each result is that of the job at its place
  abbrev pub AllGiven : List P → List X → Type 0
  AllGiven jobs results = (j : ℕ) (x : X) → get_elem? results j ≡ some x → (p : P) × (get_elem? jobs j ≡ some p) × gives p x

  -- the outcome agrees with the decision at the start latch
  abbrev pub Comes : P → StartSignal → Outcome P X → Type 0
  Comes p StartSignal.Go (Made x) = gives p x
  Comes p StartSignal.CalledOff (Kept q) = q ≡ p
  Comes p start outcome = ⊥

  -- the same, at the latch with this number
  abbrev pub Arrives : ℕ → P → Arrival P X → Type 0
  Arrives latch p a = (a.decision.token.of ≡ latch) × Comes p a.decision.start a.outcome
