use Rattle.std.proofs.Common.{◌≡◌, length, vec_len}
use Rattle.lfm_bench.specs.Deliveries.{CountUp}
use Rattle.lfm_bench.proofs.workloads.route.numbers.Given as goal

-- each turn has pushed the next number
abbrev pub invariant-filling : goal.invariant-filling
invariant-filling l = (vec_len l.numbers ≡ l.number) × (length l.numbers.items ≡ l.number) × CountUp l.numbers.items
