-- Functions on numbers: one that differs at one number, and the records that a function's values make.
use Rattle.std.specs.Prelude.{ℕ, zero, suc, ◌+◌, List, [], ◌∷◌, nat_eq, if◌then◌else◌}
use Rattle.lfm_words.specs.declared.pop_lists.Record.{Record}

-- the function with this value at one number, and otherwise as before
abbrev pub changed : {A : Type 0} → (ℕ → A) → ℕ → A → ℕ → A
changed f i x j = if nat_eq j i then x else f j

-- this number of records; their stamps follow the given one, and the function gives their seats
abbrev pub records : (ℕ → ℕ) → ℕ → ℕ → List Record
records pushed_at last zero = []
records pushed_at last (suc n) = record { seat = pushed_at (last + 1); stamp = last + 1 } ∷ records pushed_at (last + 1) n
