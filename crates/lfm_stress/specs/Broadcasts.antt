-- The number under the mutex in `broadcast`, as waiters come and are woken. Each addition is 1.
use Rattle.std.specs.Prelude.{◌+◌, ◌*◌, ◌%◌, ◌^◌, ℕ}

-- once all waiters have come to this turn: in each turn before it they came and were woken, and the broadcast was made
abbrev pub come : ℕ → ℕ → ℕ
come threads turn = (turn * ((threads * 2 % 2 ^ 64 + 1) % 2 ^ 64) % 2 ^ 64 + threads) % 2 ^ 64

-- once the broadcast of this turn is made
abbrev pub woken : ℕ → ℕ → ℕ
woken threads turn = (come threads turn + 1) % 2 ^ 64
