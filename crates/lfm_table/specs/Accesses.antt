-- What an access does to the word at its index.
use Rattle.std.specs.Prelude.{ℕ, ◌+◌, ◌-◌, ◌%◌, ◌^◌, Bool, true, false, bit_and, nat_eq}
use prog.Atomic.{either}
use Rattle.lfm_table.specs.declared.operations.Access.{Access}

-- the index of the word
abbrev pub word_at : Access → ℕ
word_at (Access.Load word) = word
word_at (Access.Store word new) = word
word_at (Access.FetchAdd word number) = word
word_at (Access.FetchSub word number) = word
word_at (Access.FetchAnd word mask) = word
word_at (Access.CompareExchange word old new) = word

-- the word after the access, which found this number
abbrev pub becomes : Access → ℕ → ℕ
becomes (Access.Load word) n = n
becomes (Access.Store word new) n = new
becomes (Access.FetchAdd word number) n = (n + number) % 2 ^ 64
becomes (Access.FetchSub word number) n = (n + (2 ^ 64 - number)) % 2 ^ 64
becomes (Access.FetchAnd word mask) n = bit_and n mask
becomes (Access.CompareExchange word old new) n = either (nat_eq n old) new n

-- the access stores, and finds nothing
abbrev pub is_store : Access → Bool
is_store (Access.Store word new) = true
is_store _ = false
