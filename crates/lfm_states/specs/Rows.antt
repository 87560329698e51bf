-- The known counts for two seats.
use Rattle.std.specs.Prelude.{ℕ, Bool, nat_eq, nat_le, ◌&&◌, if◌then◌else◌}
use Rattle.lfm_states.specs.declared.rows.Row.{Row}

-- how many states can be reached: at a budget of 2 if the argument is 2, and otherwise of 3
abbrev pub known_states : ℕ → ℕ
known_states budget = if nat_eq budget 2 then 31046 else 335684

-- the count is the known one, and within the bound
abbrev pub is_as_known : Row → ℕ → Bool
is_as_known row greatest = nat_eq greatest row.known && nat_le greatest row.bound
