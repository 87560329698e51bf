-- Sums over numbers.
use Rattle.std.specs.Prelude.{ℕ, zero, suc, ◌+◌}

-- the sum of f over the numbers 1 to n
abbrev pub sum_to : (ℕ → ℕ) → ℕ → ℕ
sum_to f zero = 0
sum_to f (suc n) = sum_to f n + f (suc n)
