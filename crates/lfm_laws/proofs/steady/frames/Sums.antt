-- Sums over the seats, and functions that change at one number.
use Rattle.std.proofs.Common.{◌≡◌, ◌≢◌, ℕ, zero, suc, ◌+◌, ◌*◌, ◌<◌, ◌≤◌, eqb, refl, suc-mul, inl, inr, arith}
use Rattle.std.proofs.lemmas.Bool.{cases_eq, ne_eqb, eq-eqb, cond-true, cond-false}
use Rattle.lfm_laws.specs.steady.Numbered.{changed}
use Rattle.lfm_model.specs.Sums.{sum_to}

pub changed_same : {A : Type 0} (f : ℕ → A) (i : ℕ) (x : A) → changed f i x i ≡ x
changed_same f i x = cond-true (eqb i i) x (f i) (eq-eqb i i refl)

pub changed_other : {A : Type 0} (f : ℕ → A) (i j : ℕ) (x : A) → j ≢ i → changed f i x j ≡ f j
changed_other f i j x other = cond-false (eqb j i) x (f j) (ne_eqb j i other)

-- functions that agree have the same sum
pub sum_agrees : (n : ℕ) (f f' : ℕ → ℕ) → ((i : ℕ) → f' i ≡ f i) → sum_to f' n ≡ sum_to f n
sum_agrees zero f f' same = refl
sum_agrees (suc n) f f' same = omega (arith, sum_agrees n f f' same, same (suc n))

-- the same for functions that agree from 1 to the last number
pub sum_agrees_within : (n : ℕ) (f f' : ℕ → ℕ) → ((i : ℕ) → 0 < i → i ≤ n → f' i ≡ f i) → sum_to f' n ≡ sum_to f n
sum_agrees_within zero f f' same = refl
sum_agrees_within (suc n) f f' same =
    let below = sum_agrees_within n f f' (λ i above within. same i above (omega arith)) in
    let last = same (suc n) (omega arith) (omega arith) in
    omega arith

-- the sum of a function that differs at one number
pub sum_update : (n i : ℕ) (f f' : ℕ → ℕ) → 0 < i → i ≤ n → ((j : ℕ) → j ≢ i → f' j ≡ f j) → sum_to f' n + f i ≡ sum_to f n + f' i
sum_update zero i f f' above within same = absurd (omega arith)
sum_update (suc n) i f f' above within same =
    elim (cases_eq i (suc n)) [
      | inl last ↦ rw last (let below = sum_agrees_within n f f' (λ j some most. same j (omega arith)) in omega arith)
      | inr other ↦ let below = sum_update n i f f' above (omega arith) same in let last = same (suc n) (omega arith) in omega arith
    ]

-- each value is at most the sum
pub sum_member : (n i : ℕ) (f : ℕ → ℕ) → 0 < i → i ≤ n → f i ≤ sum_to f n
sum_member zero i f above within = absurd (omega arith)
sum_member (suc n) i f above within =
    elim (cases_eq i (suc n)) [
      | inl last ↦ rw last (omega arith)
      | inr other ↦ let below = sum_member n i f above (omega arith) in omega arith
    ]

-- n values of at most b each sum to at most n * b
pub sum_bound : (n b : ℕ) (f : ℕ → ℕ) → ((i : ℕ) → f i ≤ b) → sum_to f n ≤ n * b
sum_bound zero b f most = omega arith
sum_bound (suc n) b f most = let below = sum_bound n b f most in let last = most (suc n) in omega (arith, suc-mul n b)

-- the same, less one, if one of them is less than b
pub sum_bound_less : (n b i : ℕ) (f : ℕ → ℕ) → 0 < i → i ≤ n → ((j : ℕ) → f j ≤ b) → f i + 1 ≤ b → sum_to f n + 1 ≤ n * b
sum_bound_less zero b i f above within most less = absurd (omega arith)
sum_bound_less (suc n) b i f above within most less =
    elim (cases_eq i (suc n)) [
      | inl last ↦ let below = sum_bound n b f most in let here : f (suc n) + 1 ≤ b = rw last at less in omega (arith, suc-mul n b)
      | inr other ↦ let below = sum_bound_less n b i f above (omega arith) most less in let last = most (suc n) in omega (arith, suc-mul n b)
    ]

-- a sum above 0 has a value above 0
pub sum_witness : (n : ℕ) (f : ℕ → ℕ) → 0 < sum_to f n → (i : ℕ) × (0 < i) × (i ≤ n) × (0 < f i)
sum_witness zero f some = absurd (omega arith)
sum_witness (suc n) f some =
    elim (cases_eq (f (suc n)) 0) [
      | inl none ↦ let w = sum_witness n f (omega arith) in (w.0, w.1, omega (arith, w.2), w.3)
      | inr more ↦ (suc n, omega arith, omega arith, omega arith)
    ]

pub sum_add : (n : ℕ) (f f' : ℕ → ℕ) → sum_to (λ i. f i + f' i) n ≡ sum_to f n + sum_to f' n
sum_add zero f f' = refl
sum_add (suc n) f f' = omega (arith, sum_add n f f')

-- a sum of zeros is 0
pub sum_none : (n : ℕ) (f : ℕ → ℕ) → ((i : ℕ) → f i ≡ 0) → sum_to f n ≡ 0
sum_none zero f none = refl
sum_none (suc n) f none = omega (arith, sum_none n f none, none (suc n))
