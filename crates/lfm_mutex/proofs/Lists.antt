-- A fact about each element of a list by its place, and the same fact about all elements: `Mutex::new` and `Mutex::close` use
-- the first form for seats, and loops and threads the second.
use Rattle.std.specs.Prelude.{All}
use Rattle.std.proofs.Common.{◌≡◌, ℕ, zero, suc, ◌<◌, List, [], ◌∷◌, length, get_or, refl, sym, subst, arith}
pub use Rattle.lfm_table.proofs.tables.OneMore.{and_first, and_last}
use mathlib.Core.Option.{some, some-injective, some-ne-none}
use lib.ListN.{get_elem?}

read_at : {A : Type 0} (xs : List A) (i : ℕ) (d : A) → i < length xs → get_elem? xs i ≡ some (get_or xs i d)
read_at [] i d lt = absurd (omega (arith, lt))
read_at (x ∷ xs) zero d lt = refl
read_at (x ∷ xs) (suc i) d lt = read_at xs i d (omega (arith, lt))

is_there : {A : Type 0} (xs : List A) (i : ℕ) (x : A) → get_elem? xs i ≡ some x → (i < length xs) × (get_or xs i x ≡ x)
is_there [] i x at = absurd (some-ne-none x (sym at))
is_there (y ∷ xs) zero x at = (omega arith, some-injective y x at)
is_there (y ∷ xs) (suc i) x at = let h = is_there xs i x at in let lt : i < length xs = h.0 in (omega arith, h.1)

pub all_by_place : {A : Type 0} (P : A → Type 0) (xs : List A) → ((j : ℕ) (x : A) → get_elem? xs j ≡ some x → P x) → All P xs
all_by_place P xs h i d lt = h i (get_or xs i d) (read_at xs i d lt)

pub each_of_all : {A : Type 0} (P : A → Type 0) (xs : List A) → All P xs → (j : ℕ) (x : A) → get_elem? xs j ≡ some x → P x
each_of_all P xs all j x at = let h = is_there xs j x at in subst P h.1 (all j x h.0)
