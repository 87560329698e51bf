-- A list of n items that contains each number from 1 to n contains each of them once.
use Rattle.std.proofs.Common.{◌≡◌, ℕ, zero, suc, ◌+◌, ◌<◌, ◌≤◌, List, [], ◌∷◌, length, refl, sym, ◌∙◌, ap, subst, arith, ◌⊎◌, inl, inr, ⊎_elim}
use mathlib.Core.Option.{some, some-injective, some-ne-none}
use lib.ListN.{get_elem?}
use Rattle.std.specs.List.{remove}
use Rattle.std.proofs.lemmas.List.Edits.{length-remove}
use Rattle.lfm_model.specs.Journals.{total}
use Rattle.lfm_model.specs.Sums.{sum_to}

not_removed : {A : Type 0} (xs : List A) (i k : ℕ) (y : A) → get_elem? xs k ≡ some y → (k ≡ i) ⊎ ((j : ℕ) × (get_elem? (remove xs i) j ≡ some y))
not_removed [] i k y e = absurd (some-ne-none y (sym e))
not_removed (x ∷ xs) zero zero y e = inl refl
not_removed (x ∷ xs) zero (suc k) y e = inr (k, e)
not_removed (x ∷ xs) (suc i) zero y e = inr (0, e)
not_removed (x ∷ xs) (suc i) (suc k) y e = ⊎_elim (λ t. inl (ap suc t)) (λ t. inr (suc t.0, t.1)) (not_removed xs i k y e)

total_removed : {A : Type 0} (f : A → ℕ) (xs : List A) (i : ℕ) (y : A) → get_elem? xs i ≡ some y → total f xs ≡ f y + total f (remove xs i)
total_removed f [] i y e = absurd (some-ne-none y (sym e))
total_removed f (x ∷ xs) zero y e = ap (λ z. f z + total f xs) (some-injective x y e)
total_removed f (x ∷ xs) (suc i) y e = let h = total_removed f xs i y e in omega arith

within : {A : Type 0} (xs : List A) (i : ℕ) (y : A) → get_elem? xs i ≡ some y → i < length xs
within [] i y e = absurd (some-ne-none y (sym e))
within (x ∷ xs) zero y e = omega arith
within (x ∷ xs) (suc i) y e = let h = within xs i y e in omega arith

module _ {A : Type 0} (number : A → ℕ) (f : ℕ → ℕ) where
  abbrev Has : List A → ℕ → Type 0
  Has xs k = (i : ℕ) × (x : A) × (get_elem? xs i ≡ some x) × (number x ≡ k)

  pub all_once : (n : ℕ) (xs : List A) → length xs ≡ n → ((k : ℕ) → 0 < k → k ≤ n → Has xs k) → total (λ x. f (number x)) xs ≡ sum_to f n
  all_once zero [] l h = refl
  all_once zero (x ∷ xs) l h = absurd (omega arith)
  all_once (suc n) xs l h = let last = h (suc n) (omega arith) (omega arith) in let i = last.0 in let ys = remove xs i in
      let out = total_removed (λ x. f (number x)) xs i last.1 last.2 in let short = length-remove xs i (within xs i last.1 last.2) in
      let same : f (number last.1) ≡ f (suc n) = ap f last.3 in
      let rest = all_once n ys (omega arith) (λ k p q. let old = h k p (omega arith) in ⊎_elim
      (λ (t : old.0 ≡ i). absurd (let same : last.1 ≡ old.1 = some-injective last.1 old.1 (sym last.2 ∙ subst (λ (j : ℕ). get_elem? xs j ≡ some old.1) t old.2) in let e = ap number same in let a = last.3 in let b = old.3 in omega arith))
      (λ (t : (j : ℕ) × (get_elem? ys j ≡ some old.1)). (t.0, old.1, t.1, old.3)) (not_removed xs i old.0 old.1 old.2)) in
      omega arith
