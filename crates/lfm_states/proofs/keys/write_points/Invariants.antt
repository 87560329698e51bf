use Rattle.std.proofs.Common.{◌≡◌, ◌++◌, ℕ, List}
use Rattle.lfm_states.proofs.keys.write_points.Given as goal

-- the key has grown
abbrev pub invariant-loop-s : goal.invariant-loop-s
invariant-loop-s l = record { grown : (points : List ℕ) × l.key.items ≡ l.fn.key.items ++ points }
