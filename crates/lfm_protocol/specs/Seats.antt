-- The seats of a state and their words, by the seats' numbers, which start at 1.
use Rattle.std.specs.Prelude.{ℕ, zero, suc, Bool, ◌+◌, ◌<◌, ◌≤◌, ◌&&◌, List, length, nat_lt, slice_index_or, slice_set}
use Rattle.lfm_protocol.specs.declared.points.Point.TheVariants.{Rest}
use Rattle.lfm_protocol.specs.declared.seats.SeatState.{SeatState}
use Rattle.lfm_words.specs.declared.handoffs.Handoff.{Handoff}
use Rattle.lfm_words.specs.declared.links.Link.{Link}
use Rattle.lfm_words.specs.declared.wakes.Wake.{Wake}
use Rattle.lfm_words.specs.declared.wakes.Wake.TheVariants.{Quiet}

-- the entry of the seat with this number, or d if no seat has it
unfoldable pub entry : {A : Type 0} → A → List A → ℕ → A
entry d entries zero = d
entry d entries (suc n) = slice_index_or entries n d

-- the entries after the entry of the seat with this number became x
unfoldable pub with_entry : {A : Type 0} → List A → ℕ → A → List A
with_entry entries zero x = entries
with_entry entries (suc n) x = slice_set entries n x

-- a seat at the start; also the value for a number that no seat has
abbrev pub absent : SeatState
absent = record { depth = 0; takes = 0; posts = 0; point = Rest }

-- no link
abbrev pub no_link : Link
no_link = record { stamp = 0; next = 0 }

-- nothing is posted
abbrev pub unposted : Handoff
unposted = record { seat = 0; post = 0 }

-- the seat with this number
abbrev pub seat : List SeatState → ℕ → SeatState
seat seats s = entry absent seats s

-- the link word of the seat with this number
abbrev pub link : List Link → ℕ → Link
link links s = entry no_link links s

-- the wake word of the seat with this number
abbrev pub wake : List Wake → ℕ → Wake
wake wakes s = entry Quiet wakes s

-- a seat has this number
-- above, within: the number is 1 to the number of seats
pub record IsSeat (seats : List SeatState) (s : ℕ) : Type 0 where
  pub above : 0 < s
  pub within : s ≤ length seats

-- the same as a Boolean
abbrev pub is_seat : List SeatState → ℕ → Bool
is_seat seats s = nat_lt 0 s && nat_lt s (length seats + 1)
