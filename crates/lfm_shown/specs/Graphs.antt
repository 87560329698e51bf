-- The lines of a printed graph.
use Rattle.std.specs.Prelude.{ℕ, zero, suc, ◌≡◌, ◌+◌, ◌++◌, List, [], ◌∷◌, Some, codes, decimal, length, map, slice_get}
use Rattle.lfm_core.specs.text.Trace.{state_text}
use Rattle.lfm_protocol.specs.Core.{Core}
use Rattle.lfm_protocol.specs.declared.answers.Call.{Call}
use Rattle.lfm_protocol.specs.declared.answers.Call.TheVariants.{SendLock}
use Rattle.lfm_shown.specs.Names.{call_name}
use Rattle.lfm_shown.specs.Texts.{link_text, numbered, seat_text}
use Rattle.lfm_shown.specs.declared.successors.Event.{Event}
use Rattle.lfm_shown.specs.declared.successors.Event.TheVariants.{Begin, Step}
use Rattle.lfm_text.specs.Writing.{joined}

abbrev pub header_text : ℕ → ℕ → List ℕ
header_text seats budget = joined (codes "graph " ∷ decimal seats ∷ codes " " ∷ decimal budget ∷ codes "\n" ∷ [])

-- ---- texts

abbrev pub text_line : List ℕ → List ℕ
text_line text = joined (codes "+" ∷ text ∷ codes "\n" ∷ [])

-- a line for each text
abbrev pub text_lines : List (List ℕ) → List ℕ
text_lines [] = []
text_lines (text ∷ texts) = text_line text ++ text_lines texts

-- ---- states

-- the texts of the first n seats
abbrev pub texts_of_seats : Core → ℕ → List (List ℕ)
texts_of_seats c zero = []
texts_of_seats c (suc n) = texts_of_seats c n ++ seat_text c (suc n) ∷ []

-- what a trace shows, the push word, and each seat
abbrev pub texts_of_state : Core → List (List ℕ)
texts_of_state c = state_text c ∷ link_text c.push ∷ texts_of_seats c (length c.seats)

-- the text of a seat, after a bar
abbrev pub barred_text : Core → ℕ → List ℕ
barred_text c s = joined (codes "|" ∷ seat_text c s ∷ [])

-- n seats, the first of which has the number s + 1
abbrev pub seats_text : Core → ℕ → ℕ → List ℕ
seats_text c s zero = []
seats_text c s (suc n) = barred_text c (s + 1) ++ seats_text c (s + 1) n

-- all texts of a state, with bars between them
abbrev pub key_text : Core → List ℕ
key_text c = joined (state_text c ∷ codes "|" ∷ link_text c.push ∷ seats_text c 0 (length c.seats) ∷ [])

-- these numbers are those of these texts, in their order, among all texts
abbrev pub Name : List (List ℕ) → List ℕ → List (List ℕ) → Type 0
Name texts numbers named = map (slice_get texts) numbers ≡ map Some named

-- each number after a space, and the end of the line
abbrev pub further_numbers : List ℕ → List ℕ
further_numbers [] = codes "\n"
further_numbers (n ∷ numbers) = numbered (codes " ") n ++ further_numbers numbers

abbrev pub state_line : List ℕ → List ℕ
state_line numbers = codes "=" ++ further_numbers numbers

-- ---- events

abbrev pub target_text : Call → List ℕ
target_text (SendLock t) = numbered (codes " ") t
target_text call = []

abbrev pub begin_text : Call → List ℕ
begin_text call = joined (call_name call ∷ target_text call ∷ [])

-- as after the seat in a line of a schedule
abbrev pub act_text : Event → List ℕ
act_text (Begin s call) = begin_text call
act_text (Step s) = codes "."

-- the seat, the number of its text, and the number of the state that it leads to
abbrev pub event_line : ℕ → ℕ → ℕ → List ℕ
event_line seat number target = joined (decimal seat ∷ numbered (codes " ") number ∷ numbered (codes " ") target ∷ codes "\n" ∷ [])
