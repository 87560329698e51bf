-- Items by their index in a list.
use Rattle.std.proofs.Common.{◌≡◌, ◌≢◌, ◌⊎◌, ⊎_elim, inl, inr, ℕ, zero, suc, ◌<◌, List, [], ◌∷◌, ◌++◌, length, get_or, set, refl, sym, ◌∙◌, ap, subst, arith}
use Rattle.std.specs.List.{zip}
use mathlib.Core.Option.{some, some-injective, some-ne-none}
use lib.ListN.{get_elem?}

-- A property of each item of a list and of one appended item holds of all items. By cases on the index
pub each_more : {A : Type 0} (P : ℕ → A → Type 0) (xs ys : List A) (x : A) → ys ≡ xs ++ x ∷ [] → ((j : ℕ) (y : A) → get_elem? xs j ≡ some y → P j y) → P (length xs) x
    → (j : ℕ) (y : A) → get_elem? ys j ≡ some y → P j y
each_more P xs ys x is h last j y e = each P xs x h last j y (ap (λ l. get_elem? l j) (sym is) ∙ e) where
  each : {A : Type 0} (P : ℕ → A → Type 0) (xs : List A) (x : A) → ((j : ℕ) (y : A) → get_elem? xs j ≡ some y → P j y) → P (length xs) x
      → (j : ℕ) (y : A) → get_elem? (xs ++ x ∷ []) j ≡ some y → P j y
  each P [] x h last zero y e = subst (λ (z : _). P 0 z) (some-injective x y e) last
  each P [] x h last (suc j) y e = absurd (some-ne-none y (sym e))
  each P (z ∷ xs) x h last zero y e = h 0 y e
  each P (z ∷ xs) x h last (suc j) y e = each (λ i a. P (suc i) a) xs x (λ i a q. h (suc i) a q) last j y e

pub in_range : {A : Type 0} (xs : List A) (j : ℕ) (y : A) → get_elem? xs j ≡ some y → j < length xs
in_range [] j y e = absurd (some-ne-none y (sym e))
in_range (x ∷ xs) zero y e = omega arith
in_range (x ∷ xs) (suc j) y e = let h = in_range xs j y e in omega arith

-- an item that is read at an index is in the list at that index
pub stands : {A : Type 0} (xs : List A) (i : ℕ) (x : A) → i < length xs → x ≡ get_or xs i x → get_elem? xs i ≡ some x
stands [] i x h e = absurd (omega arith)
stands (y ∷ xs) zero x h e = ap some (sym e)
stands (y ∷ xs) (suc i) x h e = stands xs i x (omega arith) e

-- the last item, and those before it
pub stands_last : {A : Type 0} (xs : List A) (x : A) → get_elem? (xs ++ x ∷ []) (length xs) ≡ some x
stands_last [] x = refl
stands_last (y ∷ xs) x = stands_last xs x

pub stands_before : {A : Type 0} (xs ys : List A) (j : ℕ) (y : A) → get_elem? xs j ≡ some y → get_elem? (xs ++ ys) j ≡ some y
stands_before [] ys j y e = absurd (some-ne-none y (sym e))
stands_before (x ∷ xs) ys zero y e = e
stands_before (x ∷ xs) ys (suc j) y e = stands_before xs ys j y e

-- after an item was set at an index, the item at any index is that item or the one that was there before
pub stands_or_was : {A : Type 0} (xs : List A) (i : ℕ) (x : A) (j : ℕ) (y : A) → get_elem? (set xs i x) j ≡ some y → ((j ≡ i) × (y ≡ x)) ⊎ ((j ≢ i) × (get_elem? xs j ≡ some y))
stands_or_was [] i x j y e = absurd (some-ne-none y (sym e))
stands_or_was (z ∷ xs) zero x zero y e = inl (refl, sym (some-injective x y e))
stands_or_was (z ∷ xs) zero x (suc j) y e = inr ((λ q. omega arith), e)
stands_or_was (z ∷ xs) (suc i) x zero y e = inr ((λ q. omega arith), e)
stands_or_was (z ∷ xs) (suc i) x (suc j) y e = ⊎_elim (λ u. inl (ap suc u.0, u.1)) (λ u. inr ((λ q. u.0 (omega arith)), u.1)) (stands_or_was xs i x j y e)

pub stood_before : {A : Type 0} (xs ys : List A) (j : ℕ) (y : A) → j < length xs → get_elem? (xs ++ ys) j ≡ some y → get_elem? xs j ≡ some y
stood_before [] ys j y h e = absurd (omega arith)
stood_before (x ∷ xs) ys zero y h e = e
stood_before (x ∷ xs) ys (suc j) y h e = stood_before xs ys j y (omega arith) e

-- a pair in the zip of two lists has the items of both at the same index
pub stand_both : {A B : Type 0} (xs : List A) (ys : List B) (i : ℕ) (x : A) (y : B) → i < length (zip xs ys) → (x, y) ≡ get_or (zip xs ys) i (x, y) → (get_elem? xs i ≡ some x) × (get_elem? ys i ≡ some y)
stand_both [] ys i x y h e = absurd (omega arith)
stand_both (z ∷ xs) [] i x y h e = absurd (omega arith)
stand_both (z ∷ xs) (w ∷ ys) zero x y h e = (ap (λ p. some p.0) (sym e), ap (λ p. some p.1) (sym e))
stand_both (z ∷ xs) (w ∷ ys) (suc i) x y h e = stand_both xs ys i x y (omega arith) e

pub zipped : {A B : Type 0} (xs : List A) (ys : List B) (i : ℕ) (x : A) (y : B) → get_elem? (zip xs ys) i ≡ some (x, y) → (get_elem? xs i ≡ some x) × (get_elem? ys i ≡ some y)
zipped [] ys i x y e = absurd (some-ne-none (x, y) (sym e))
zipped (z ∷ xs) [] i x y e = absurd (some-ne-none (x, y) (sym e))
zipped (z ∷ xs) (w ∷ ys) zero x y e = let q = some-injective (z, w) (x, y) e in (ap (λ p. some p.0) q, ap (λ p. some p.1) q)
zipped (z ∷ xs) (w ∷ ys) (suc i) x y e = zipped xs ys i x y e

-- a triple in the zip of three lists has the items of all three at the same index
pub stand_all : {A B C : Type 0} (xs : List A) (ys : List B) (zs : List C) (i : ℕ) (x : A) (y : B) (z : C) → i < length (zip (zip xs ys) zs) → ((x, y), z) ≡ get_or (zip (zip xs ys) zs) i ((x, y), z)
    → (get_elem? xs i ≡ some x) × (get_elem? ys i ≡ some y) × (get_elem? zs i ≡ some z)
stand_all xs ys zs i x y z h e = let outer = stand_both (zip xs ys) zs i (x, y) z h e in let inner = zipped xs ys i x y outer.0 in (inner.0, inner.1, outer.1)

length_zip : {A B : Type 0} (xs : List A) (ys : List B) → length xs ≡ length ys → length (zip xs ys) ≡ length xs
length_zip [] ys e = refl
length_zip (x ∷ xs) [] e = absurd (omega arith)
length_zip (x ∷ xs) (y ∷ ys) e = ap suc (length_zip xs ys (omega arith))

pub length_zips : {A B C : Type 0} (xs : List A) (ys : List B) (zs : List C) → length xs ≡ length ys → length xs ≡ length zs → length (zip (zip xs ys) zs) ≡ length xs
length_zips xs ys zs e f = let l = length_zip xs ys e in length_zip (zip xs ys) zs (l ∙ f) ∙ l
