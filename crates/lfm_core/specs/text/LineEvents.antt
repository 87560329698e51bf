-- The lines of a schedule as starts of calls and single steps: which events a line is, and that a line does what these do and
-- has the turn of the last of them.
use Rattle.std.specs.Prelude.{◌≡◌, ℕ, zero, suc, List, [], ◌∷◌, ◌++◌, if◌then◌else◌}
use Rattle.lfm_protocol.specs.declared.answers.Turn.{Turn}
use Rattle.lfm_protocol.specs.declared.answers.Turn.TheVariants.{Open}
use Rattle.lfm_core.specs.declared.text.schedule.Act.{Act}
use Rattle.lfm_core.specs.declared.text.schedule.Act.TheVariants.{Begin, Steps, ToEnd}
use Rattle.lfm_core.specs.declared.text.schedule.Line.{Line}
use Rattle.lfm_words.specs.declared.pop_lists.Record.{Record}
use Rattle.lfm_protocol.specs.Core.{Core}
use Rattle.lfm_laws.specs.laws.Events.{answered_by}
use Rattle.lfm_laws.specs.laws.Schedules.{Event, begins, makes, happens, run_of, answer_record}
use Rattle.lfm_protocol.specs.Step.{step}
use Rattle.lfm_core.specs.text.Lines.{line_moved, lines_core, lines_turns}
use Rattle.lfm_protocol.specs.Turns.{is_open, longest_call}

-- at most this number of steps of seat s; each except the last leaves its call open
abbrev pub events_of_steps : ℕ → Core → ℕ → List Event
events_of_steps zero c s = []
events_of_steps (suc most) c s =
    makes s ∷ (if is_open (step c s).turn then events_of_steps most (step c s).core s else [])

-- the start of a call, a given number of steps, or all steps to the end of the call
abbrev pub events_of_act : Core → ℕ → Act → List Event
events_of_act c s (Begin call) = begins s call ∷ []
events_of_act c s (Steps most) = events_of_steps most c s
events_of_act c s ToEnd = events_of_steps (longest_call c) c s

abbrev pub events_of_line : Core → Line → List Event
events_of_line c line = events_of_act c line.seat line.act

-- the events of the lines in order, each from the state after the events before it
abbrev pub events_of_lines : Core → List Line → List Event
events_of_lines c [] = []
events_of_lines c (line ∷ lines) = events_of_line c line ++ events_of_lines (run_of c (events_of_line c line)) lines

-- the turn of the last of some events, or this one if there are none
abbrev pub last_turn : Core → List Event → Turn → Turn
last_turn c [] none = none
last_turn c (e ∷ later) none = last_turn (happens c e).core later (happens c e).turn

-- the last turn of each line's events
abbrev pub last_turns : Core → List Line → List Turn
last_turns c [] = []
last_turns c (line ∷ lines) = last_turn c (events_of_line c line) Open ∷ last_turns (run_of c (events_of_line c line)) lines

-- the seat and stamp of each answer Held(Queued) of some lines, in order: among the steps of a line, only the last can end a
-- call with an answer
abbrev pub answer_record_of_lines : Core → List Line → List Record
answer_record_of_lines c [] = []
answer_record_of_lines c (line ∷ lines) =
    answered_by line.seat (line_moved c line).turn ++ answer_record_of_lines (line_moved c line).core lines

-- lines lead to the state to which their events lead, and have the same answers
pub record LinesGoBy (c : Core) (lines : List Line) : Type 0 where
  pub core : lines_core c lines ≡ run_of c (events_of_lines c lines)
  pub turns : lines_turns c lines ≡ last_turns c lines
  pub answers : answer_record_of_lines c lines ≡ answer_record c (events_of_lines c lines)

-- lines are their events, so that every law of events holds of lines
abbrev pub LinesAreEvents : Type 0
LinesAreEvents = (c : Core) (lines : List Line) → LinesGoBy c lines
