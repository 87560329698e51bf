-- The indexes of the words of a pool.
use Rattle.std.specs.Prelude.{ℕ, ◌+◌, ◌*◌}

-- the index of word k of mutex m
abbrev pub own_at : ℕ → ℕ → ℕ
own_at m k = m * 8 + k

-- the index of the link word of the seat at place j, in a pool of this many mutexes
abbrev pub link_at : ℕ → ℕ → ℕ
link_at mutexes j = mutexes * 8 + j * 2

-- the index of its wake word
abbrev pub wake_at : ℕ → ℕ → ℕ
wake_at mutexes j = mutexes * 8 + j * 2 + 1
