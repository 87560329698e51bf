use Rattle.std.proofs.Common.{◌≡◌, ◌++◌, ℕ, List}
use Rattle.lfm_states.proofs.keys.write_point.Given as goal

-- the key has grown
abbrev pub invariant-loop-number : goal.invariant-loop-number
invariant-loop-number l = record { grown : (numbers : List ℕ) × l.key.items ≡ l.fn.key.items ++ numbers }
