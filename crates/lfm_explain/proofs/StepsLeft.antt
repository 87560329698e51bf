-- The remaining steps of a line, by cases on whether the next step ends the call.
use Rattle.std.proofs.Common.{◌≡◌, ◌+◌, ◌-◌, ◌<◌, ℕ, suc, true, false, refl, arith}
use Rattle.lfm_core.specs.text.Lines.{steps}
use Rattle.lfm_protocol.specs.Core.{Core}
use Rattle.lfm_protocol.specs.Step.{step}
use Rattle.lfm_protocol.specs.Turns.{is_open}

module _ (most i : ℕ) (c : Core) (s : ℕ) (more : i < most) where
  one_less : most - i ≡ suc (most - (i + 1))
  one_less = omega (arith, more)

  -- the call ends or is refused, so the steps end
  pub stops : is_open (step c s).turn ≡ false → steps (most - i) c s ≡ step c s
  stops closed = rw (one_less, closed) refl

  -- the call goes on, so the remaining steps start from the state after the step
  pub goes_on : is_open (step c s).turn ≡ true → steps (most - i) c s ≡ steps (most - (i + 1)) (step c s).core s
  goes_on lasts = rw (one_less, lasts) refl
