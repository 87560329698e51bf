-- Which numbers a seat may have.
use Rattle.std.specs.Prelude.{ℕ, ◌<◌, ◌≤◌}

-- the greatest number of a seat
abbrev pub max_seat_no : ℕ
max_seat_no = 65535

-- from 1 to the greatest number
abbrev pub IsSeatNo : ℕ → Type 0
IsSeatNo n = (0 < n) × (n ≤ max_seat_no)
