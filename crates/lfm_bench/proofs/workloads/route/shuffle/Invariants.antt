use Rattle.std.proofs.Common.{IsPermutation}
use Rattle.lfm_bench.proofs.workloads.route.shuffle.Given as goal

-- each turn has only exchanged numbers
abbrev pub invariant-places : goal.invariant-places
invariant-places l = IsPermutation l.initial.numbers l.numbers
