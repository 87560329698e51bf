-- What entries add, and what a script's lines add.
use Rattle.std.specs.Prelude.{ℕ, List, [], ◌∷◌, ◌++◌}
use Rattle.lfm_model.specs.declared.objects.TotalOp.{TotalOp}
use Rattle.lfm_model.specs.declared.objects.TotalOp.TheVariants.{Add, Read}
use Rattle.lfm_model.specs.declared.journals.What.{What}
use Rattle.lfm_model.specs.declared.journals.What.TheVariants.{Took, Did}
use Rattle.lfm_model.specs.declared.journals.Entry.{Entry}
use Rattle.lfm_script.specs.declared.script.Command.{Command}
use Rattle.lfm_script.specs.declared.script.Command.TheVariants.{Add as AddNumber, Until, One, All}
use Rattle.lfm_script.specs.declared.script.ScriptLine.{ScriptLine}
use Rattle.lfm_script.specs.script.Commands.{commands_of}

abbrev pub added : What TotalOp → List ℕ
added (Took h) = []
added (Did (Add k)) = k ∷ []
added (Did Read) = []

-- the numbers that the entries add
abbrev pub adds : List (Entry TotalOp) → List ℕ
adds [] = []
adds (e ∷ es) = added e.what ++ adds es

abbrev pub command_adds : Command → List ℕ
command_adds (AddNumber k) = k ∷ []
command_adds (Until c k) = []
command_adds (One c) = []
command_adds (All c) = []

-- the numbers that commands add
abbrev pub all_adds : List Command → List ℕ
all_adds [] = []
all_adds (m ∷ ms) = command_adds m ++ all_adds ms

-- the numbers that the lines of one worker add
abbrev pub worker_adds : ℕ → List ScriptLine → List ℕ
worker_adds w ls = all_adds (commands_of w ls)

-- the numbers that all lines add
abbrev pub lines_adds : List ScriptLine → List ℕ
lines_adds [] = []
lines_adds (l ∷ ls) = command_adds l.command ++ lines_adds ls
