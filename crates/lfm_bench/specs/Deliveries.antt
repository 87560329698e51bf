-- Numbers that were taken out of a queue into which 0, 1, 2 and so on were put.
use Rattle.std.specs.Prelude.{◌≡◌, ◌<◌, ℕ, List, length, slice_index, IsPermutation}

-- the numbers are 0, 1, 2 and so on, in this order
abbrev pub CountUp : List ℕ → Type 0
CountUp numbers = (j : ℕ) → j < length numbers → slice_index numbers j ≡ j

-- the numbers are 0, 1, 2 and so on in some order: none is missing up to the greatest, and none occurs twice
pub record IsEachOnce (numbers : List ℕ) : Type 0 where
  pub sorted : List ℕ
  pub same : IsPermutation numbers sorted
  pub each : CountUp sorted
