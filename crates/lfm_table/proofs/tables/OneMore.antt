-- A fact about each element of a list by its place, when one more element is added at the end or in front.
use Rattle.std.proofs.Common.{◌≡◌, ℕ, zero, suc, ◌+◌, ◌∙◌, List, [], ◌∷◌, ◌++◌, length, refl, sym, ap, subst, ⊎_elim, arith}
use Rattle.std.specs.List.{insert}
use Rattle.lfm_table.proofs.tables.OneView.{at_end}
use mathlib.Core.Option.{some, some-injective}
use lib.ListN.{get_elem?}

-- a fact on each item, and on one more at the end
pub and_last : {A : Type 0} (P : ℕ → A → Type 0) (l m : List A) (x : A) → m ≡ l ++ x ∷ [] → P (length l) x → ((j : ℕ) (y : A) → get_elem? l j ≡ some y → P j y) → (j : ℕ) (y : A) → get_elem? m j ≡ some y → P j y
and_last {A} P l m x is p old j y e = ⊎_elim (λ u. old j y u) (λ u. subst (λ (t : ℕ × A). P t.0 t.1) (λ i. (sym u.0 i, u.1 i)) p) (at_end l x y j (ap (λ z. get_elem? z j) (sym is) ∙ e))

insert_first : {A : Type 0} (xs : List A) (x : A) → insert xs 0 x ≡ x ∷ xs
insert_first [] x = refl
insert_first (y ∷ ys) x = refl

in_front : {A : Type 0} (P : ℕ → A → Type 0) (xs : List A) (x : A) → P 0 x → ((j : ℕ) (y : A) → get_elem? xs j ≡ some y → P (j + 1) y) → (j : ℕ) (y : A) → get_elem? (x ∷ xs) j ≡ some y → P j y
in_front P xs x p ps zero y e = subst (P 0) (some-injective x y e) p
in_front P xs x p ps (suc j) y e = subst (λ (n : ℕ). P n y) (let q : j + 1 ≡ suc j = omega arith in q) (ps j y e)

-- a fact on each item, and on one more in front
pub and_first : {A : Type 0} (P : ℕ → A → Type 0) (xs ys : List A) (x : A) → ys ≡ insert xs 0 x → P 0 x → ((j : ℕ) (y : A) → get_elem? xs j ≡ some y → P (j + 1) y) → (j : ℕ) (y : A) → get_elem? ys j ≡ some y → P j y
and_first P xs ys x is p ps j y e = in_front P xs x p ps j y (ap (λ z. get_elem? z j) (sym (is ∙ insert_first xs x)) ∙ e)
