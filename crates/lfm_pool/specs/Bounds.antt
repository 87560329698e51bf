-- Bounds of the takes and posts of a seat, and of the pushes of a mutex. At one in a microsecond the least of them lasts for
-- four years.
use Rattle.std.specs.Prelude.{ℕ, ◌-◌, ◌^◌}

-- how many takes a seat of a new pool may make
abbrev pub most_takes : ℕ
most_takes = 2 ^ 63

-- a seat that has made this number of posts acquires no mutex, and does not queue
abbrev pub most_posts : ℕ
most_posts = 2 ^ 47

-- a seat that finds that a mutex has had this number of pushes does not ask for it
abbrev pub most_stamps : ℕ
most_stamps = 2 ^ 48 - 2 ^ 13
