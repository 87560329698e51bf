-- Bounds on how much a sum over the seats rises, by how much its values rise.
use Rattle.std.proofs.Common.{◌≢◌, ℕ, zero, suc, ◌+◌, ◌*◌, ◌≤◌, ◌<◌, sym, inl, inr, arith, suc-mul}
use Rattle.std.proofs.lemmas.Bool.{cases_eq}
use Rattle.std.proofs.Math.Nat.{mul-add}
use Rattle.lfm_model.specs.Sums.{sum_to}

-- each value rises by at most this much
pub sum_more : (n a : ℕ) (f f' : ℕ → ℕ) → ((j : ℕ) → j ≤ n → f' j ≤ f j + a) → sum_to f' n ≤ sum_to f n + n * a
sum_more zero a f f' most = omega arith
sum_more (suc n) a f f' most =
    let below = sum_more n a f f' (λ j within. most j (omega (arith, within))) in
    let last = most (suc n) (omega arith) in
    omega (arith, below, last, suc-mul n a)

-- each value except one rises by at most this much
pub sum_spreads : (n i a : ℕ) (f f' : ℕ → ℕ) → 0 < i → i ≤ n → ((j : ℕ) → j ≢ i → f' j ≤ f j + a) → sum_to f' n + f i + a ≤ sum_to f n + f' i + n * a
sum_spreads zero i a f f' above within most = absurd (omega arith)
sum_spreads (suc n) i a f f' above within most =
    elim (cases_eq i (suc n)) [
      | inl last ↦
          let below = sum_more n a f f' (λ j small. most j (λ e. omega (arith, small, e, last))) in
          rw last (omega (arith, below, suc-mul n a))
      | inr other ↦
          let below = sum_spreads n i a f f' above (omega arith) most in
          let here = most (suc n) (λ e. other (sym e)) in
          omega (arith, below, here, suc-mul n a)
    ]

-- each value is at most k times the other
pub sum_scales : (n k : ℕ) (f g : ℕ → ℕ) → ((j : ℕ) → f j ≤ k * g j) → sum_to f n ≤ k * sum_to g n
sum_scales zero k f g most = omega arith
sum_scales (suc n) k f g most =
    let below = sum_scales n k f g most in
    let last = most (suc n) in
    omega (arith, below, last, mul-add k (sum_to g n) (g (suc n)))
