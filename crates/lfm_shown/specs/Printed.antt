-- What was printed of a graph: the bytes that were appended, and the texts that were printed with them.
use Rattle.std.specs.Prelude.{ℕ, ◌≡◌, ◌++◌, List, [], ◌∷◌, Option, Some, if◌then◌else◌, nat_eq, slice_get}
use Rattle.std.specs.Cmp.Lexicographic.{pointwise}
use Rattle.std.specs.Io.KnownBytes.{Appends}
use Rattle.std.specs.List.{list_any}
use Rattle.lfm_protocol.specs.Core.{Core}
use Rattle.lfm_shown.specs.EventTexts.{event_text}
use Rattle.lfm_shown.specs.Graphs.{Name, event_line, state_line, text_lines, texts_of_state}
use Rattle.lfm_shown.specs.Successors.{Shows, happens, seat_of}
use Rattle.lfm_shown.specs.declared.successors.Event.{Event}
use Rattle.lfm_shown.specs.declared.successors.MadeEvent.{MadeEvent}

-- a text that is not among those that were printed before; nothing if it is
abbrev pub new_text : List (List ℕ) → List ℕ → List (List ℕ)
new_text before text = if list_any (pointwise nat_eq text) before then [] else text ∷ []

-- those of these texts that were not printed before, each once, in their order
abbrev pub new_texts : List (List ℕ) → List (List ℕ) → List (List ℕ)
new_texts before [] = []
new_texts before (text ∷ texts) = new_text before text ++ new_texts (before ++ new_text before text) texts

-- Exactly these bytes were appended: a line for each of these texts that was not printed before, and then this line. The texts
-- that are printed now are those before and the new ones.
pub record Prints (old new : Option (List ℕ)) (before after : List (List ℕ)) (texts : List (List ℕ)) (line : List ℕ) : Type 0 where
  pub all : after ≡ before ++ new_texts before texts
  pub appended : Appends old new (text_lines (new_texts before texts) ++ line)

-- the new texts of a state, and its line, which has the numbers of all of them
pub record PrintsState (old new : Option (List ℕ)) (before after : List (List ℕ)) (c : Core) : Type 0 where
  pub numbers : List ℕ
  pub named : Name after numbers (texts_of_state c)
  pub printed : Prints old new before after (texts_of_state c) (state_line numbers)

-- the text of an event if it is new, and its line: its seat, the number of its text, and that of the state that it leads to
pub record PrintsEvent (old new : Option (List ℕ)) (before after : List (List ℕ)) (made : MadeEvent) (target : ℕ) : Type 0 where
  pub number : ℕ
  pub named : slice_get after number ≡ Some (event_text made)
  pub printed : Prints old new before after (event_text made ∷ []) (event_line (seat_of made.event) number target)

-- the same of this event of this state, with its outcome and what is shown of it
pub record PrintsEventOf (old new : Option (List ℕ)) (before after : List (List ℕ)) (c : Core) (e : Event) (target : ℕ) : Type 0 where
  pub made : MadeEvent
  pub event_is : made.event ≡ e
  pub turn_is : made.turn ≡ (happens c e).turn
  pub shown_is : Shows c e made.shown
  pub line : PrintsEvent old new before after made target
