-- The queue of a state: the records of the waiting seats, oldest first.
use Rattle.std.specs.Prelude.{ℕ, zero, suc, Bool, ◌+◌, ◌++◌, ◌&&◌, List, [], ◌∷◌, length, nat_eq, nat_lt, reverse, if◌then◌else◌}
use Rattle.lfm_protocol.specs.declared.points.Point.{Point}
use Rattle.lfm_protocol.specs.declared.points.Point.TheVariants.{TakeLinkLoad}
use Rattle.lfm_protocol.specs.declared.seats.SeatState.{SeatState}
use Rattle.lfm_words.specs.declared.links.Link.{Link}
use Rattle.lfm_words.specs.declared.pop_lists.Record.{Record}
use Rattle.lfm_protocol.specs.Core.{Core}
use Rattle.lfm_protocol.specs.Seats.{link}

-- there is a link word for this number
abbrev pub is_linked : List Link → ℕ → Bool
is_linked links t = nat_lt 0 t && nat_lt t (length links + 1)

-- the record of a seat, by its link
abbrev pub linked_record : List Link → ℕ → Record
linked_record links t = record { seat = t; stamp = (link links t).stamp }

-- the records from a seat along the links, newest first, at most this many; 0 ends the walk
abbrev pub chain_of : ℕ → List Link → ℕ → List Record
chain_of zero links t = []
chain_of (suc most) links t =
    if is_linked links t then linked_record links t ∷ chain_of most links (link links t).next else []

-- the records from a seat along the links, newest first: at most as many as there are seats
abbrev pub chain : List Link → ℕ → List Record
chain links t = chain_of (length links) links t

-- the seat whose link a carrier at this point loads next; 0 if it loads none
abbrev pub unwalked_at : Point → ℕ
unwalked_at (TakeLinkLoad carrier next) = next
unwalked_at _ = 0

-- the same for the first seat that loads a link next; 0 if none does
abbrev pub unwalked : List SeatState → ℕ
unwalked [] = 0
unwalked (x ∷ seats) = if nat_eq (unwalked_at x.point) 0 then unwalked seats else unwalked_at x.point

-- Three parts, the older ones first: records whose links a carrier has not loaded yet, popped records, pushed records.
abbrev pub queue_of : Core → List Record
queue_of c = reverse (chain c.links (unwalked c.seats)) ++ (c.popped ++ reverse (chain c.links c.push.next))
