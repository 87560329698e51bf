-- What the type of a stepped mutex guarantees of its parts, whatever calls and steps are made: their sizes alone.
use Rattle.std.specs.Prelude.{ℕ, ◌≡◌, ◌≤◌, List, length}
use Rattle.lfm_protocol.specs.declared.seats.SeatState.{SeatState}
use Rattle.lfm_protocol.specs.Limits.{max_seats}
use Rattle.lfm_words.specs.declared.links.Link.{Link}
use Rattle.lfm_words.specs.declared.wakes.Wake.{Wake}
use Rattle.lfm_words.specs.Popped.{Popped}

-- linked, woken: each seat has a link word and a wake word
-- room: the pop list has room for a record of each seat
-- popped_few: the pop list holds no more records than there are seats
-- owned: the owner word holds 0 or the number of a seat
-- few: a mutex has at most 4,095 seats
pub record IsWhole (popped : Popped) (owner : ℕ) (links : List Link) (wakes : List Wake) (seats : List SeatState) : Type 0 where
  pub linked : length links ≡ length seats
  pub woken : length wakes ≡ length seats
  pub room : popped.room ≡ length seats
  pub popped_few : length popped.records ≤ length seats
  pub owned : owner ≤ length seats
  pub few : length seats ≤ max_seats
