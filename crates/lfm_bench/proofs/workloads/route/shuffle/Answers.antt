use Rattle.std.proofs.lemmas.List.Sorted.{IsPermutation-trans}
use Rattle.lfm_bench.proofs.workloads.route.shuffle.Goals as goal

pub places-preserved : goal.places-preserved
places-preserved c = IsPermutation-trans _ _ _ c.places.invariant c.swap.ensures.permutation
