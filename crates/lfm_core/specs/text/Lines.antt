-- How a line of a schedule changes a state, and how a list of lines does.
use Rattle.std.specs.Prelude.{ℕ, List, [], ◌∷◌}
use Rattle.lfm_protocol.specs.declared.answers.Turn.{Turn}
use Rattle.lfm_core.specs.declared.text.schedule.Act.{Act}
use Rattle.lfm_core.specs.declared.text.schedule.Act.TheVariants.{Begin, Steps, ToEnd}
use Rattle.lfm_core.specs.declared.text.schedule.Line.{Line}
use Rattle.lfm_protocol.specs.Core.{Core, Moved}
use Rattle.lfm_protocol.specs.Step.{begin}
use Rattle.lfm_protocol.specs.Turns.{longest_call}
pub use Rattle.lfm_laws.specs.laws.Schedules.{steps}

abbrev pub act_moved : Core → ℕ → Act → Moved
act_moved c s (Begin call) = begin c s call
act_moved c s (Steps most) = steps most c s
act_moved c s ToEnd = steps (longest_call c) c s

-- the state after a line, and the line's last turn
abbrev pub line_moved : Core → Line → Moved
line_moved c line = act_moved c line.seat line.act

-- the state after some lines
abbrev pub lines_core : Core → List Line → Core
lines_core c [] = c
lines_core c (line ∷ lines) = lines_core (line_moved c line).core lines

-- the last turn of each of some lines
abbrev pub lines_turns : Core → List Line → List Turn
lines_turns c [] = []
lines_turns c (line ∷ lines) = (line_moved c line).turn ∷ lines_turns (line_moved c line).core lines
