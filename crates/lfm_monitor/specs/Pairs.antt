-- Two lists whose items are related index by index.
use Rattle.std.specs.Prelude.{◌≡◌, ℕ, List, length}
use mathlib.Core.Option.{some}
use lib.ListN.{get_elem?}

-- the lists are equally long, and items at the same index are related
pub record Pairwise {A B : Type 0} (related : A → B → Type 0) (xs : List A) (ys : List B) : Type 0 where
  pub long : length xs ≡ length ys
  pub each : (i : ℕ) (x : A) (y : B) → get_elem? xs i ≡ some x → get_elem? ys i ≡ some y → related x y

-- each item of the list has the property
abbrev pub Each : {A : Type 0} → (A → Type 0) → List A → Type 0
Each {A} has xs = (i : ℕ) (x : A) → get_elem? xs i ≡ some x → has x
