-- Sums over the numbers 1 to n, and the sum of the seats' entries in a journal.
use Rattle.std.proofs.Common.{◌≡◌, ◌≢◌, ℕ, zero, suc, ◌+◌, ◌*◌, ◌<◌, ◌≤◌, ◌==◌, Bool, true, false, if◌then◌else◌, List, [], ◌∷◌, ◌++◌, length, refl, sym, ap, subst, arith, eq-eqb, ne_eqb, suc-mul}
use mathlib.Core.Logic.{dite}
use native.Mathlib.Decide.{ℕ_discrete}
use Rattle.lfm_model.specs.declared.journals.Entry.{Entry}
use Rattle.lfm_model.specs.Journals.{own, Within}
use Rattle.lfm_model.specs.Sums.{sum_to}

pub sum_ext : (f g : ℕ → ℕ) (n : ℕ) → ((s : ℕ) → f s ≡ g s) → sum_to f n ≡ sum_to g n
sum_ext f g n h = λ i. sum_to (λ s. h s i) n

pub sum_add : (f g : ℕ → ℕ) (n : ℕ) → sum_to (λ s. f s + g s) n ≡ sum_to f n + sum_to g n
sum_add f g zero = refl
sum_add f g (suc n) = let h = sum_add f g n in omega arith

pub sum_none : (n : ℕ) → sum_to (λ s. 0) n ≡ 0
sum_none zero = refl
sum_none (suc n) = let h = sum_none n in omega arith

abbrev pub one_at : ℕ → ℕ → ℕ
one_at k s = (if k == s then 1 else 0)

pub one_same : (k s : ℕ) → k ≡ s → one_at k s ≡ 1
one_same k s e = ap (λ (b : Bool). (if b then 1 else 0)) (eq-eqb k s e)

pub one_other : (k s : ℕ) → k ≢ s → one_at k s ≡ 0
one_other k s e = ap (λ (b : Bool). (if b then 1 else 0)) (ne_eqb k s e)

most_at : (b : Bool) → (if b then 1 else 0) ≤ 1
most_at true = omega arith
most_at false = omega arith

pub one_most : (k s : ℕ) → one_at k s ≤ 1
one_most k s = most_at (k == s)

one_past : (k n : ℕ) → n < k → sum_to (one_at k) n ≡ 0
one_past k zero h = refl
one_past k (suc n) h = let a = one_past k n (omega arith) in let b = one_other k (suc n) (λ e. omega arith) in omega arith

pub one_within : (k n : ℕ) → 0 < k → k ≤ n → sum_to (one_at k) n ≡ 1
one_within k zero p h = absurd (omega arith)
one_within k (suc n) p h = dite (ℕ_discrete k (suc n))
    (λ e. let a = one_past k n (omega arith) in let b = one_same k (suc n) e in omega arith)
    (λ ne. let a = one_within k n p (omega arith) in let b = one_other k (suc n) ne in omega arith)

pub sum_at_most : (f : ℕ → ℕ) (b n : ℕ) → ((s : ℕ) → f s ≤ b) → sum_to f n ≤ n * b
sum_at_most f b zero h = omega arith
sum_at_most f b (suc n) h = let a = sum_at_most f b n h in let c = h (suc n) in omega (arith, suc-mul n b)

pub sum_below : (f : ℕ → ℕ) (b n k : ℕ) → ((s : ℕ) → f s ≤ b) → 0 < k → k ≤ n → f k < b → sum_to f n < n * b
sum_below f b zero k h p q lt = absurd (omega arith)
sum_below f b (suc n) k h p q lt = dite (ℕ_discrete k (suc n))
    (λ e. let a = sum_at_most f b n h in let c : f (suc n) < b = subst (λ (x : ℕ). f x < b) e lt in omega (arith, suc-mul n b))
    (λ ne. let a = sum_below f b n k h p (omega arith) lt in let c = h (suc n) in omega (arith, suc-mul n b))

module _ {A : Type 0} where
  own_more : (b : Bool) (e : Entry A) (xs : List (Entry A)) → length (if b then e ∷ xs else xs) ≡ (if b then 1 else 0) + length xs
  own_more true e xs = omega arith
  own_more false e xs = omega arith

  -- the seats' numbers of entries add up to the length of the journal
  pub own_total : (n : ℕ) (es : List (Entry A)) → Within n es → length es ≡ sum_to (λ s. length (own s es)) n
  own_total n [] w = sym (sum_none n)
  own_total n (e ∷ es) w = let rest = own_total n es w.1.1 in let one = one_within e.seat n w.0 w.1.0 in
      let split = sum_ext (λ s. length (own s (e ∷ es))) (λ s. one_at e.seat s + length (own s es)) n (λ s. own_more (e.seat == s) e (own s es)) in
      let parts = sum_add (one_at e.seat) (λ s. length (own s es)) n in omega arith

  pub own_room : (n b k : ℕ) (es : List (Entry A)) → Within n es → ((s : ℕ) → length (own s es) ≤ b) → 0 < k → k ≤ n → length (own k es) < b → length es < n * b
  own_room n b k es w h p q lt = let a = own_total n es w in let c = sum_below (λ s. length (own s es)) b n k h p q lt in omega arith

  pub within_append : (n : ℕ) (xs ys : List (Entry A)) → Within n xs → Within n ys → Within n (xs ++ ys)
  within_append n [] ys a b = b
  within_append n (e ∷ xs) ys a b = (a.0, (a.1.0, within_append n xs ys a.1.1 b))
