-- Whether a count is greater than the kept one. If none is kept, every count is greater.
use Rattle.std.specs.Prelude.{ℕ, Bool, true, nat_lt, Option, Some, None}

abbrev pub is_below : Option ℕ → ℕ → Bool
is_below None count = true
is_below (Some kept) count = nat_lt kept count
