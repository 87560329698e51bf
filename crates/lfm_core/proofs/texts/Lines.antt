-- Where several steps of one seat, one after another, stop and where they continue.
use Rattle.std.proofs.Common.{◌≡◌, ◌+◌, ◌-◌, ◌<◌, ℕ, zero, suc, true, false, refl, arith}
use Rattle.lfm_protocol.specs.Core.{Core}
use Rattle.lfm_core.specs.text.Lines.{steps}
use Rattle.lfm_protocol.specs.Turns.{is_open}
use Rattle.lfm_protocol.specs.Step.{step}

-- a step that ends the call is the last
pub steps-stop : (n : ℕ) (c : Core) (s : ℕ) → 0 < n → is_open (step c s).turn ≡ false → steps n c s ≡ step c s
steps-stop zero c s some closed = absurd (omega (arith, some))
steps-stop (suc n) c s some closed = rw closed refl

-- after a step that leaves the call open there is one step fewer to make
pub steps-on : (n i : ℕ) (c : Core) (s : ℕ) → i < n → is_open (step c s).turn ≡ true → steps (n - i) c s ≡ steps (n - (i + 1)) (step c s).core s
steps-on n i c s more on =
    let one : n - i ≡ suc (n - (i + 1)) = omega (arith, more) in
    rw (one, on) refl
