-- Items that are appended to lists.
use Rattle.std.specs.Prelude.{◌≡◌, ℕ, List, [], ◌∷◌, ◌++◌, vec_capacity}
use Rattle.std.specs.Global.{Vec}
use mathlib.Core.Option.{some}
use lib.ListN.{get_elem?}

-- the list l is the one that was at index j, with the item of that index appended
pub record Dealt {A : Type 0} (lists : List (Vec A)) (items : List A) (j : ℕ) (l : Vec A) : Type 0 where
  pub old : Vec A
  pub item : A
  pub was : get_elem? lists j ≡ some old
  pub dealt : get_elem? items j ≡ some item
  pub grown : l.items ≡ old.items ++ item ∷ []
  pub room : vec_capacity l ≡ vec_capacity old
