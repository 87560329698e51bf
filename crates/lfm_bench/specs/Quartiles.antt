-- The quartiles of a series.
use Rattle.std.specs.Prelude.{◌≡◌, ◌-◌, ◌/◌, ℕ, List, length, slice_index, IsPermutation, IsSorted}
use Rattle.std.specs.Ordering.{nat_cmp}
use Rattle.lfm_bench.specs.declared.measure.figures.Quartiles.{Quartiles}

-- the median is in the middle (the upper of two if the number of figures is even), and as many figures are before the lower
-- quartile as after the upper one: a quarter of all
pub record StandIn (q : Quartiles) (sorted : List ℕ) : Type 0 where
  pub lower : q.lower ≡ slice_index sorted (length sorted / 4)
  pub median : q.median ≡ slice_index sorted (length sorted / 2)
  pub upper : q.upper ≡ slice_index sorted (length sorted - 1 - length sorted / 4)

-- they are the quartiles of the figures in ascending order
pub record AreQuartiles (q : Quartiles) (figures : List ℕ) : Type 0 where
  pub sorted : List ℕ
  pub same : IsPermutation figures sorted
  pub ascending : IsSorted nat_cmp sorted
  pub places : StandIn q sorted
