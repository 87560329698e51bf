-- The texts of events: what an explanation shows of a start or a step, and the text that a graph prints of an event.
use Rattle.std.specs.Prelude.{ℕ, Bool, true, false, List, [], ◌∷◌, ◌&&◌, Option, Some, None, codes, decimal, nat_eq, if◌then◌else◌}
use Rattle.lfm_core.specs.text.Trace.{answer_text, place_text, turn_text, why_text}
use Rattle.lfm_model.specs.declared.answers.Place.{Place}
use Rattle.lfm_protocol.specs.After.{same_handoff, same_link}
use Rattle.lfm_protocol.specs.declared.answers.Turn.{Turn}
use Rattle.lfm_protocol.specs.declared.answers.Turn.TheVariants.{Open, Ended, Refused}
use Rattle.lfm_protocol.specs.declared.kinds.Kind.{Kind}
use Rattle.lfm_protocol.specs.declared.kinds.Kind.TheVariants.{OwnerLoad, PushLoad, LinkLoad, HandoffLoad, WakeLoad, CountExchange, PushExchange, HandoffExchange, WakeExchange}
use Rattle.lfm_shown.specs.Graphs.{act_text}
use Rattle.lfm_shown.specs.Names.{call_name, case_name, kind_name, step_name}
use Rattle.lfm_shown.specs.Successors.{act_of}
use Rattle.lfm_shown.specs.Texts.{value_text, word_text}
use Rattle.lfm_shown.specs.declared.cases.Case.{Case}
use Rattle.lfm_shown.specs.declared.cases.Case.TheVariants.{Ask, Queue}
use Rattle.lfm_shown.specs.declared.events.Plain.{Plain}
use Rattle.lfm_shown.specs.declared.events.ShownStart.{ShownStart}
use Rattle.lfm_shown.specs.declared.events.ShownStep.{ShownStep}
use Rattle.lfm_shown.specs.declared.successors.MadeEvent.{MadeEvent}
use Rattle.lfm_shown.specs.declared.successors.Shown.{Shown}
use Rattle.lfm_shown.specs.declared.values.Value.{Value}
use Rattle.lfm_text.specs.Writing.{joined}
use Rattle.lfm_words.specs.declared.wakes.Wake.{Wake}
use Rattle.lfm_words.specs.declared.wakes.Wake.TheVariants.{Quiet, Waiting, Claimed, Grant}

-- ---- the plain data of a seat

-- a number under its name, before and after an event; nothing if it has not changed
abbrev pub change_text : List ℕ → ℕ → ℕ → List ℕ
change_text name before after = if nat_eq before after then [] else joined (name ∷ decimal before ∷ codes " -> " ∷ decimal after ∷ [])

abbrev pub changes_text : Plain → Plain → List ℕ
changes_text before after = joined (change_text (codes ", depth ") before.depth after.depth
    ∷ change_text (codes ", takes ") before.takes after.takes ∷ change_text (codes ", posts ") before.posts after.posts ∷ [])

-- ---- a start of a call

abbrev pub started_text : Turn → List ℕ
started_text Open = codes ": begins"
started_text (Ended answer) = joined (codes ": ends " ∷ answer_text answer ∷ [])
started_text (Refused why) = joined (codes ": refused " ∷ why_text why ∷ [])

abbrev pub start_text : ShownStart → List ℕ
start_text shown = joined (call_name shown.call ∷ started_text shown.turn ∷ changes_text shown.before shown.after ∷ [])

-- ---- a step

abbrev pub same_wake : Wake → Wake → Bool
same_wake Quiet Quiet = true
same_wake Waiting Waiting = true
same_wake Claimed Claimed = true
same_wake (Grant a) (Grant b) = nat_eq a b
same_wake _ _ = false

-- two values of one word are the same
abbrev pub same_value : Value → Value → Bool
same_value (Value.Number a) (Value.Number b) = nat_eq a b
same_value (Value.Handoff a) (Value.Handoff b) = same_handoff a b
same_value (Value.Link a) (Value.Link b) = same_link a b
same_value (Value.Wake a) (Value.Wake b) = same_wake a b
same_value _ _ = false

-- a step of this kind can change its word: it is no load
abbrev pub writes_word : Kind → Bool
writes_word OwnerLoad = false
writes_word PushLoad = false
writes_word LinkLoad = false
writes_word HandoffLoad = false
writes_word WakeLoad = false
writes_word _ = true

abbrev pub exchanges : Kind → Bool
exchanges CountExchange = true
exchanges PushExchange = true
exchanges HandoffExchange = true
exchanges WakeExchange = true
exchanges _ = false

abbrev pub written_text : Kind → Value → List ℕ
written_text kind holds = if writes_word kind then joined (codes " -> " ∷ value_text holds ∷ []) else []

-- The operation, what it found, and what it wrote. An exchange that left its word as it was has failed, and wrote nothing.
abbrev pub operation_made : Kind → Value → Value → List ℕ
operation_made kind found holds = if exchanges kind && same_value found holds
    then joined (kind_name kind ∷ codes " fails " ∷ value_text found ∷ [])
    else joined (kind_name kind ∷ codes " " ∷ value_text found ∷ written_text kind holds ∷ [])

-- A case moves the responsibility, except that a record is queued, or that a seat asks beside others.
abbrev pub moves_place : Value → Case → Bool
moves_place found Queue = false
moves_place found Ask = same_value found (Value.Number 0)
moves_place found _ = true

abbrev pub moved_text : Bool → Place → List ℕ
moved_text moves place = if moves then joined (codes " to " ∷ place_text place ∷ []) else []

-- the case of a step, and the new place of the responsibility if it moved
abbrev pub case_text : Value → Option Case → Place → List ℕ
case_text found None place = []
case_text found (Some case) place = joined (codes ", " ∷ case_name case ∷ moved_text (moves_place found case) place ∷ [])

-- what a step did
abbrev pub effect_text : ShownStep → List ℕ
effect_text shown = joined (operation_made shown.coming.kind shown.coming.found shown.holds
    ∷ case_text shown.coming.found shown.coming.case shown.place ∷ changes_text shown.before shown.after ∷ [])

abbrev pub step_text : ShownStep → List ℕ
step_text shown = joined (step_name shown.coming.point ∷ codes ": " ∷ word_text shown.coming.word ∷ codes " " ∷ effect_text shown ∷ [])

-- ---- an event

-- nothing of a step if no call of the seat was open
abbrev pub shown_text : Shown → List ℕ
shown_text (Shown.Start start) = start_text start
shown_text (Shown.Step (Some step)) = step_text step
shown_text (Shown.Step None) = []

-- the act as in a schedule, what an explanation shows of it, and the outcome as in a trace
abbrev pub event_text : MadeEvent → List ℕ
event_text made = joined (act_text made.event ∷ codes "|" ∷ shown_text made.shown ∷ codes "|" ∷ turn_text (act_of made.event) made.turn ∷ [])
