-- Items by their place in a list.
use Rattle.std.proofs.Common.{◌≡◌, ℕ, zero, suc, ◌+◌, List, [], ◌∷◌, ◌++◌, length, refl, sym, ◌∙◌, ap, subst, arith}
use mathlib.Core.Option.{some, some-injective, some-ne-none}
use lib.ListN.{get_elem?}

-- what holds of each item of a list, and of one more item, holds of each item of the longer list
pub each_more : {A : Type 0} (P : ℕ → A → Type 0) (xs ys : List A) (x : A) → ys ≡ xs ++ x ∷ [] → ((j : ℕ) (y : A) → get_elem? xs j ≡ some y → P j y) → P (length xs) x
    → (j : ℕ) (y : A) → get_elem? ys j ≡ some y → P j y
each_more P xs ys x is h last j y e = each P xs x h last j y (ap (λ l. get_elem? l j) (sym is) ∙ e) where
  each : {A : Type 0} (P : ℕ → A → Type 0) (xs : List A) (x : A) → ((j : ℕ) (y : A) → get_elem? xs j ≡ some y → P j y) → P (length xs) x
      → (j : ℕ) (y : A) → get_elem? (xs ++ x ∷ []) j ≡ some y → P j y
  each P [] x h last zero y e = subst (λ (z : _). P 0 z) (some-injective x y e) last
  each P [] x h last (suc j) y e = absurd (some-ne-none y (sym e))
  each P (z ∷ xs) x h last zero y e = h 0 y e
  each P (z ∷ xs) x h last (suc j) y e = each (λ i a. P (suc i) a) xs x (λ i a q. h (suc i) a q) last j y e

-- anything holds of each item of an empty list, since it has none
pub each_of_none : {A : Type 0} (P : ℕ → A → Type 0) (xs : List A) → xs ≡ [] → (j : ℕ) (y : A) → get_elem? xs j ≡ some y → P j y
each_of_none P xs is j y e = absurd (some-ne-none y (sym (ap (λ l. get_elem? l j) (sym is) ∙ e)))

-- The items that are still to come, from place n on: the first of them is at place n, and the others are at the places after it
module _ {A : Type 0} (all rest next : List A) (x : A) (n : ℕ) (steps : rest ≡ x ∷ next) (come : (i : ℕ) (y : A) → get_elem? rest i ≡ some y → get_elem? all (n + i) ≡ some y) where
  pub first_comes : get_elem? all n ≡ some x
  first_comes = let e : n + 0 ≡ n = omega arith in subst (λ (k : ℕ). get_elem? all k ≡ some x) e (come 0 x (ap (λ l. get_elem? l 0) steps))

  pub others_come : (m : ℕ) → m ≡ n + 1 → (i : ℕ) (y : A) → get_elem? next i ≡ some y → get_elem? all (m + i) ≡ some y
  others_come m is i y e = let eq : n + suc i ≡ m + i = omega arith in subst (λ (k : ℕ). get_elem? all k ≡ some y) eq (come (suc i) y (ap (λ l. get_elem? l (suc i)) steps ∙ e))

-- at the start all items are still to come
pub all_come : {A : Type 0} (all rest : List A) (n : ℕ) → rest ≡ all → n ≡ 0 → (i : ℕ) (y : A) → get_elem? rest i ≡ some y → get_elem? all (n + i) ≡ some y
all_come all rest n is none i y e = let eq : i ≡ n + i = omega arith in subst (λ (k : ℕ). get_elem? all k ≡ some y) eq (ap (λ l. get_elem? l i) (sym is) ∙ e)

-- two lists of the same length are equal if each item of one is at the same place of the other
pub same_items : {A : Type 0} (xs ys : List A) → length xs ≡ length ys → ((j : ℕ) (x : A) → get_elem? xs j ≡ some x → get_elem? ys j ≡ some x) → xs ≡ ys
same_items [] [] long h = refl
same_items [] (y ∷ ys) long h = absurd (omega (arith, long))
same_items (x ∷ xs) [] long h = absurd (omega (arith, long))
same_items (x ∷ xs) (y ∷ ys) long h = let here : y ≡ x = some-injective y x (h 0 x refl) in let rest : xs ≡ ys = same_items xs ys (omega (arith, long)) (λ j z at. h (suc j) z at) in
    ap (λ z. z ∷ xs) (sym here) ∙ ap (λ zs. y ∷ zs) rest
