-- The popped records of a mutex as a chain in the link words of their seats, from the oldest on, and what the seat that
-- carries the mutex knows of it.
use Rattle.std.specs.Prelude.{◌≡◌, ◌⊎◌, ⊤, ℕ, ◌-◌, ◌+◌, ◌*◌, ◌≤◌, Bool, true, false, List, [], ◌∷◌, slice_index}
use Rattle.lfm_words.specs.declared.pop_lists.Record.{Record}
use Rattle.lfm_words.specs.Popped.{oldest}
use Rattle.lfm_words.specs.Words.{link_word, seat_field_size}
use Rattle.lfm_protocol.specs.declared.points.Carrier.{Carrier}
use Rattle.lfm_protocol.specs.declared.points.Point.{Point}
use Rattle.lfm_protocol.specs.declared.points.Point.TheVariants.{PushExchange, TakeLinkLoad}
use Rattle.lfm_protocol.specs.declared.seats.SeatState.{SeatState}
use Rattle.lfm_laws.specs.table.Carried.{carries_value}
use Rattle.lfm_laws.specs.table.Words.{stepped_by, popped_by_step}
use Rattle.lfm_table.specs.declared.seat_view.View.{View}
use Rattle.lfm_table.specs.Steps.{gives_at}
use Rattle.lfm_pool.specs.declared.view.Note.{Note}
use Rattle.lfm_pool.specs.Layout.{link_at}

-- the seat of the oldest record, 0 if there is none
abbrev pub first_seat : List Record → ℕ
first_seat [] = 0
first_seat (r ∷ rest) = r.seat

-- what the link word of the oldest record's seat holds in a chain of these records: the stamp of the record, and the seat of
-- the record after it, 0 if there is none
abbrev pub first_link : List Record → ℕ
first_link [] = 0
first_link (r ∷ rest) = link_word (record { stamp = r.stamp; next = first_seat rest })

-- one of these records is that of the seat with this number
abbrev pub HasRecord : ℕ → List Record → Type 0
HasRecord t [] = ⊥
HasRecord t (r ∷ rest) = (r.seat ≡ t) ⊎ HasRecord t rest

-- the records are of seats up to this number
abbrev pub AreWithin : ℕ → List Record → Type 0
AreWithin most popped = (t : ℕ) → HasRecord t popped → t ≤ most

-- In a pool of this many mutexes and with these words, these records are a chain: the link word of the seat of each has the
-- stamp of the record, and the seat of the record after it, 0 if it is the last one.
abbrev pub IsChain : ℕ → List ℕ → List Record → Type 0
IsChain mutexes words [] = ⊤
IsChain mutexes words (r ∷ rest) =
    (slice_index words (link_at mutexes (r.seat - 1)) ≡ first_link (r ∷ rest)) × IsChain mutexes words rest

-- Notes

-- All popped records are in the chain, and the carried word has the seat of the oldest of them. The upper bits of that word,
-- how many holds the owner has beyond its first, are 0.
abbrev pub rested : List Record → Note
rested popped = record { due = 0; carried = first_seat popped }

-- The same of a seat that rests, and holds the mutex this many times beyond its first hold: the upper bits of the carried
-- word have that number.
abbrev pub deep : ℕ → List Record → Note
deep more popped = record (rested popped) { carried = more * seat_field_size + first_seat popped }

-- how many records are not in the chain after a step at this point: the load of a link adds a record to the pop list
abbrev pub due_after : Point → ℕ → ℕ
due_after (TakeLinkLoad carrier next) due = due + 1
due_after _ due = due

-- by whether the seat carries the mutex before the step, and after it
abbrev pub note_by : Bool → Bool → Point → Note → List Record → Note
note_by true carries point note popped = record note { due = due_after point note.due }
note_by false true point note popped = rested popped
note_by false false point note popped = note

-- What the seat notes after its step, if its data were p before it, and its view is w now. A seat that begins to carry the
-- mutex finds the chain whole.
abbrev pub note_after : SeatState → View ⊤ → Note → Note
note_after p w note = note_by (carries_value p) (carries_value w.state) p.point note w.popped

-- what a seat notes after steps before which it did not carry the mutex, by whether it carries it now
abbrev pub note_if : Bool → Note → List Record → Note
note_if true before popped = rested popped
note_if false before popped = before

-- The same, by its view now: if it carries the mutex, it has found the chain whole. Else its note is as it was.
abbrev pub note_since : View ⊤ → Note → Note
note_since w before = note_if (carries_value w.state) before w.popped

-- a step at this point needs something of the chain, or an admission: it gives the mutex away, loads a link, or pushes
abbrev pub needs_chain : Point → Bool
needs_chain (TakeLinkLoad carrier next) = true
needs_chain (PushExchange pusher seen) = true
needs_chain q = gives_at q

-- The seat with this number, whose data are p and whose view is v, may make its step.
-- gives: if that gives the mutex away, then the chain is whole, and the carried word has the seat of the oldest record that
--     is left
-- loads: if it loads a link, then the chain is whole
pub record KeepsChain (p : SeatState) (number : ℕ) (v : View ⊤) (note : Note) : Type 0 where
  pub gives : (n : ℕ) → carries_value p ≡ true → carries_value (stepped_by p number n (oldest v.popped)).seat ≡ false
      → note ≡ rested (popped_by_step p number n v.popped)
  pub loads : (carrier : Carrier) (next : ℕ) → p.point ≡ TakeLinkLoad carrier next → note.due ≡ 0
