-- What follows if a pool was opened.
use Rattle.std.proofs.Common.{◌≡◌, Bool, true, false, refl}

pub fits : (b : Bool) → (b ≡ false → ⊥) → b ≡ true
fits true = λ never. refl
fits false = λ never. absurd (never refl)
