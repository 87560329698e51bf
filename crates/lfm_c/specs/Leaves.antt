-- What an export leaves in the caller's memory.
use base.Fml.{Fml, fex, fsep, ftrue}

-- there is a value at this place of which this is true
abbrev pub leaves : {A : Type 0} → (A → Fml) → (A → Type 0) → Fml
leaves {A = A} at φ = fex A (λ y. fsep (at y) (fex (φ y) (λ _. ftrue)))
