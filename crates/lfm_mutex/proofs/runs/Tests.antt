-- A fact about the outcome of a test, from the same fact about both outcomes.
use Rattle.std.proofs.Common.{◌≡◌, Bool, true, false, refl, if◌then◌else◌}

pub if_both : {A : Type 0} (P : A → Type 0) (b : Bool) (u v : A) → P u → P v → P (if b then u else v)
if_both P true u v first second = first
if_both P false u v first second = second

-- each outcome may use how the test came out
pub if_known : {A : Type 0} (P : A → Type 0) (b : Bool) (u v : A) → (b ≡ true → P u) → (b ≡ false → P v) → P (if b then u else v)
if_known P true u v first second = first refl
if_known P false u v first second = second refl
