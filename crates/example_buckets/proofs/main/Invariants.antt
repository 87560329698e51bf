use Rattle.std.proofs.Common.{◌≡◌, ◌≤◌, length, vec_capacity, vec_len}
use Rattle.example_buckets.proofs.main.Given as goal

-- each turn has pushed a number, and there is room for all
abbrev pub invariant-filling : goal.invariant-filling
invariant-filling g l = (length l.numbers.items ≡ l.counter) × (vec_len l.numbers ≡ l.counter) × (1000 ≤ vec_capacity l.numbers)
