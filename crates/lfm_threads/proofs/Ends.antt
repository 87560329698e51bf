-- The outcome of a job, by cases on the decision at the start latch.
use Rattle.std.proofs.Common.{◌≡◌, subst}
use Rattle.lfm_threads.specs.declared.start_latch.StartSignal.{StartSignal}
use Rattle.lfm_threads.specs.declared.arrivals.Outcome.{Outcome}
use Rattle.lfm_threads.specs.declared.arrivals.Outcome.TheVariants.{Made, Kept}
use Rattle.lfm_threads.specs.Together.{Comes}

module _ {P X : Type 0} (gives : P → X → Type 0) (p : P) (start : StartSignal) (outcome : Outcome P X) where
  comes_as : (s : StartSignal) (o : Outcome P X) → start ≡ s → outcome ≡ o → Comes gives p start outcome → Comes gives p s o
  comes_as s o e f c = subst (λ t. Comes gives p s t) f (subst (λ t. Comes gives p t outcome) e c)

  pub made : (x : X) → start ≡ StartSignal.Go → outcome ≡ Made x → Comes gives p start outcome → gives p x
  made x e f c = comes_as StartSignal.Go (Made x) e f c

  pub not_kept : (q : P) → start ≡ StartSignal.Go → outcome ≡ Kept q → Comes gives p start outcome → ⊥
  not_kept q e f c = comes_as StartSignal.Go (Kept q) e f c

  pub kept : (q : P) → start ≡ StartSignal.CalledOff → outcome ≡ Kept q → Comes gives p start outcome → q ≡ p
  kept q e f c = comes_as StartSignal.CalledOff (Kept q) e f c

  pub not_made : (x : X) → start ≡ StartSignal.CalledOff → outcome ≡ Made x → Comes gives p start outcome → ⊥
  not_made x e f c = comes_as StartSignal.CalledOff (Made x) e f c
