-- The text of a run: one line for the start, and one for each line of the schedule, with the state after it.
use Rattle.std.specs.Prelude.{ℕ, Bool, true, ◌+◌, ◌++◌, ◌&&◌, not, List, [], ◌∷◌, Option, Some, None, Result, Ok, Err, codes, decimal, nat_eq, if◌then◌else◌}
use Rattle.lfm_protocol.specs.declared.answers.Answer.{Answer}
use Rattle.lfm_protocol.specs.declared.answers.Answer.TheVariants.{Asked, Locked, Unlocked, Waiting, Got, Sent}
use Rattle.lfm_protocol.specs.declared.answers.Turn.{Turn}
use Rattle.lfm_protocol.specs.declared.answers.Turn.TheVariants.{Open, Ended, Refused}
use Rattle.lfm_protocol.specs.declared.answers.Why.{Why}
use Rattle.lfm_protocol.specs.declared.answers.Why.TheVariants.{NoSuchSeat, InCall, Idle, By}
use Rattle.lfm_core.specs.declared.text.schedule.Act.{Act}
use Rattle.lfm_core.specs.declared.text.schedule.Act.TheVariants.{Begin, Steps, ToEnd}
use Rattle.lfm_core.specs.declared.text.schedule.Line.{Line}
use Rattle.lfm_core.specs.declared.text.faults.ReplayFault.{ReplayFault}
use Rattle.lfm_core.specs.declared.text.faults.ReplayFault.TheVariants.{Syntax}
use Rattle.lfm_protocol.specs.Core.{Core}
use Rattle.lfm_core.specs.text.Grammar.{Plan, plan_in}
use Rattle.lfm_core.specs.text.Lines.{line_moved}
use Rattle.lfm_protocol.specs.Place.{place_of}
use Rattle.lfm_protocol.specs.Queue.{queue_of}
use Rattle.lfm_protocol.specs.Step.{start}
use Rattle.lfm_protocol.specs.Turns.{is_refused}
use Rattle.lfm_text.specs.FaultLines.{limit_text, syntax_text}
use Rattle.lfm_text.specs.Writing.{joined}
use Rattle.lfm_model.specs.declared.answers.How.{How}
use Rattle.lfm_model.specs.declared.answers.Asked.{Asked as AskedAnswer}
use Rattle.lfm_model.specs.declared.answers.Asked.TheVariants as Asked
use Rattle.lfm_model.specs.declared.answers.Locked.{Locked as LockedAnswer}
use Rattle.lfm_model.specs.declared.answers.Locked.TheVariants as Locked
use Rattle.lfm_model.specs.declared.answers.Unlocked.{Unlocked as UnlockedAnswer}
use Rattle.lfm_model.specs.declared.answers.Unlocked.TheVariants as Unlocked
use Rattle.lfm_model.specs.declared.answers.Place.{Place}
use Rattle.lfm_model.specs.Refusals.{name_of}
use Rattle.lfm_words.specs.declared.handoffs.Handoff.{Handoff}
use Rattle.lfm_words.specs.declared.pop_lists.Record.{Record}

-- ---- the result of a line

abbrev pub how_text : How → List ℕ
how_text How.Free = codes "Free"
how_text (How.Queued stamp) = joined (codes "Queued " ∷ decimal stamp ∷ [])

abbrev pub held_text : How → List ℕ
held_text how = joined (codes "Held " ∷ how_text how ∷ [])

abbrev pub again_text : ℕ → List ℕ
again_text depth = joined (codes "Again " ∷ decimal depth ∷ [])

abbrev pub asked_text : AskedAnswer → List ℕ
asked_text (Asked.Held how) = held_text how
asked_text (Asked.Again depth) = again_text depth
asked_text Asked.Asleep = codes "Asleep"

abbrev pub locked_text : LockedAnswer → List ℕ
locked_text (Locked.Held how) = held_text how
locked_text (Locked.Again depth) = again_text depth

abbrev pub unlocked_text : UnlockedAnswer → List ℕ
unlocked_text (Unlocked.Still depth) = joined (codes "Still " ∷ decimal depth ∷ [])
unlocked_text Unlocked.Free = codes "Free"
unlocked_text (Unlocked.Granted seat) = joined (codes "Granted " ∷ decimal seat ∷ [])
unlocked_text Unlocked.Posted = codes "Posted"
unlocked_text Unlocked.TakenOver = codes "TakenOver"

abbrev pub got_text : Option How → List ℕ
got_text None = codes "None"
got_text (Some how) = held_text how

abbrev pub answer_text : Answer → List ℕ
answer_text (Asked answer) = asked_text answer
answer_text (Locked answer) = locked_text answer
answer_text (Unlocked answer) = unlocked_text answer
answer_text (Waiting answer) = joined (codes "Waiting " ∷ unlocked_text answer ∷ [])
answer_text (Got how) = got_text how
answer_text Sent = codes "Sent"

abbrev pub why_text : Why → List ℕ
why_text NoSuchSeat = codes "NoSuchSeat"
why_text InCall = codes "InCall"
why_text Idle = codes "Idle"
why_text (By refusal) = name_of refusal

-- the text for a call that is open after a line: one for a line that starts the call, another for a line that makes steps
abbrev pub open_text : Act → List ℕ
open_text (Begin call) = codes "begins"
open_text (Steps most) = codes "goes on"
open_text ToEnd = codes "goes on"

abbrev pub turn_text : Act → Turn → List ℕ
turn_text act Open = open_text act
turn_text act (Ended answer) = joined (codes "ends " ∷ answer_text answer ∷ [])
turn_text act (Refused why) = joined (codes "refused " ∷ why_text why ∷ [])

-- ---- a state

-- 0, or the posting seat and its post number
abbrev pub handoff_text : Handoff → List ℕ
handoff_text h = if nat_eq h.seat 0 then codes "0" else joined (decimal h.seat ∷ codes "." ∷ decimal h.post ∷ [])

abbrev pub place_text : Place → List ℕ
place_text Place.Free = codes "free"
place_text (Place.Owner seat) = joined (codes "owner." ∷ decimal seat ∷ [])
place_text (Place.Passed seat) = joined (codes "passed." ∷ decimal seat ∷ [])
place_text Place.Posted = codes "posted"
place_text (Place.Carried seat) = joined (codes "carried." ∷ decimal seat ∷ [])

abbrev pub record_text : Record → List ℕ
record_text r = joined (decimal r.seat ∷ codes "#" ∷ decimal r.stamp ∷ [])

-- further records, each after a comma
abbrev pub further_text : List Record → List ℕ
further_text [] = []
further_text (r ∷ records) = joined (codes "," ∷ record_text r ∷ []) ++ further_text records

-- records joined by commas, and a dash if there is none
abbrev pub queue_text : List Record → List ℕ
queue_text [] = codes "-"
queue_text (r ∷ records) = record_text r ++ further_text records

-- count, owner and handoff
abbrev pub words_text : Core → List ℕ
words_text c = joined (decimal c.count ∷ codes " " ∷ decimal c.owner ∷ codes " " ∷ handoff_text c.handoff ∷ [])

-- the words, the place and the queue
abbrev pub state_text : Core → List ℕ
state_text c = joined (words_text c ∷ codes " " ∷ place_text (place_of c) ∷ codes " " ∷ queue_text (queue_of c) ∷ [])

-- ---- lines

-- the first line, with the number of seats
abbrev pub opening_text : ℕ → Core → List ℕ
opening_text seats c = joined (codes "1 seats " ∷ decimal seats ∷ codes " | " ∷ state_text c ∷ codes "\n" ∷ [])

-- the number of a line, its seat, and its result
abbrev pub outcome_text : ℕ → Line → Turn → List ℕ
outcome_text number line turn = joined (decimal number ∷ codes " " ∷ decimal line.seat ∷ codes " " ∷ turn_text line.act turn ∷ [])

-- a line's outcome, and the state after it
abbrev pub line_text : ℕ → Line → Turn → Core → List ℕ
line_text number line turn c = joined (outcome_text number line turn ∷ codes " | " ∷ state_text c ∷ codes "\n" ∷ [])

-- a line of text for each line, numbered from the given number, each from the state after the line before
abbrev pub lines_text : ℕ → Core → List Line → List ℕ
lines_text number c [] = []
lines_text number c (line ∷ lines) =
    line_text number line (line_moved c line).turn (line_moved c line).core ++ lines_text (number + 1) (line_moved c line).core lines

-- no line is refused
abbrev pub none_refused : Core → List Line → Bool
none_refused c [] = true
none_refused c (line ∷ lines) = not (is_refused (line_moved c line).turn) && none_refused (line_moved c line).core lines

-- ---- an input

-- the state that a schedule starts from
abbrev pub opening : Plan → Core
opening p = start (record { seats = p.seats; budget = p.budget })

abbrev pub plan_text : Plan → List ℕ
plan_text p = opening_text p.seats (opening p) ++ lines_text 2 (opening p) p.lines

abbrev pub fault_text : ReplayFault → List ℕ
fault_text (Syntax number) = syntax_text number
fault_text _ = limit_text

abbrev pub text_of : Result Plan ReplayFault → List ℕ
text_of (Ok p) = plan_text p
text_of (Err fault) = fault_text fault

abbrev pub answer_of : Result Plan ReplayFault → Result Bool ReplayFault
answer_of (Ok p) = Ok (none_refused (opening p) p.lines)
answer_of (Err fault) = Err fault

-- what is written for an input
abbrev pub trace_of : List ℕ → List ℕ
trace_of input = text_of (plan_in input)

-- what is returned for an input: whether no line is refused, or its fault
abbrev pub verdict_of : List ℕ → Result Bool ReplayFault
verdict_of input = answer_of (plan_in input)
