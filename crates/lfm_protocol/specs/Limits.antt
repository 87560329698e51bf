-- How many seats a mutex may have, how many takes each may charge, and how many times a seat may hold it.
use Rattle.std.specs.Prelude.{ℕ, Bool, ◌&&◌, nat_le}

-- the greatest number of seats
abbrev pub max_seats : ℕ
max_seats = 4095

-- the largest budget of a seat: 2^36 takes
abbrev pub max_budget : ℕ
max_budget = 68719476736

-- the greatest number of times that a seat may hold at once
abbrev pub max_depth : ℕ
max_depth = 65535

-- 1 to 4,095 seats, with a budget of 1 to 2^36
abbrev pub are_in_limits : ℕ → ℕ → Bool
are_in_limits seats budget = nat_le 1 seats && nat_le seats max_seats && nat_le 1 budget && nat_le budget max_budget
