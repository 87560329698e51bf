-- The mutex as data: the words, the pop list and the seats. What a step does to them is in the module Step.
use Rattle.std.specs.Prelude.{ℕ, Bool, List, ◌∷◌, drop, length, if◌then◌else◌}
use Rattle.lfm_protocol.specs.declared.answers.Turn.{Turn}
use Rattle.lfm_protocol.specs.declared.answers.Turn.TheVariants.{Refused}
use Rattle.lfm_protocol.specs.declared.answers.Why.{Why}
use Rattle.lfm_protocol.specs.declared.limits.Limits.{Limits}
use Rattle.lfm_protocol.specs.declared.seats.SeatState.{SeatState}
use Rattle.lfm_words.specs.declared.handoffs.Handoff.{Handoff}
use Rattle.lfm_words.specs.declared.links.Link.{Link}
use Rattle.lfm_words.specs.declared.pop_lists.Record.{Record}
use Rattle.lfm_words.specs.declared.wakes.Wake.{Wake}
use Rattle.lfm_protocol.specs.Begin.{Stepped}
use Rattle.lfm_protocol.specs.Seats.{with_entry}

-- budget: how many takes each seat may charge
-- count: the count word, the number of seats that hold or want the mutex
-- owner: the owner word, the number of the owning seat or 0
-- handoff: the handoff word, the current post; its seat is 0 if nothing is posted
-- push: the push word, the newest stamp and the newest seat of the push list
-- popped: the pop list, oldest first
-- links, wakes, seats: the link word, the wake word and the data of each seat, starting with seat 1
pub record Core : Type 0 where
  pub budget : ℕ
  pub count : ℕ
  pub owner : ℕ
  pub handoff : Handoff
  pub push : Link
  pub popped : List Record
  pub links : List Link
  pub wakes : List Wake
  pub seats : List SeatState

-- core: the mutex after a turn
-- turn: the result of the turn
pub record Moved : Type 0 where
  pub core : Core
  pub turn : Turn

-- how many seats there are, and how many takes each may charge
abbrev pub limits : Core → Limits
limits c = record { seats = length c.seats; budget = c.budget }

-- the state after the data of seat s became x
abbrev pub put : Core → ℕ → SeatState → Core
put c s x = record c { seats = with_entry c.seats s x }

-- the state after the link of seat s became l
abbrev pub put_link : Core → ℕ → Link → Core
put_link c s l = record c { links = with_entry c.links s l }

-- the state after the wake word of seat s became w
abbrev pub put_wake : Core → ℕ → Wake → Core
put_wake c s w = record c { wakes = with_entry c.wakes s w }

-- a turn that changes nothing
abbrev pub refused : Core → Why → Moved
refused c why = record { core = c; turn = Refused why }

-- the data of seat s and the turn become those of m
abbrev pub moves : Core → ℕ → Stepped → Moved
moves c s m = record { core = put c s m.seat; turn = m.turn }

-- the state after this record was added to the pop list as the oldest
abbrev pub adds_older : Core → Record → Core
adds_older c r = record c { popped = r ∷ c.popped }

-- the state after the oldest record was taken out of the pop list, if `leaves` is true
abbrev pub drops_if : Core → Bool → Core
drops_if c leaves = record c { popped = if leaves then drop 1 c.popped else c.popped }
