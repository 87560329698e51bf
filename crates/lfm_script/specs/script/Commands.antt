-- The commands of each worker of a script.
use Rattle.std.specs.Prelude.{ℕ, ◌==◌, if◌then◌else◌, List, [], ◌∷◌}
use Rattle.lfm_script.specs.declared.script.Command.{Command}
use Rattle.lfm_script.specs.declared.script.ScriptLine.{ScriptLine}

-- the commands of one worker, in the order of the script
abbrev pub commands_of : ℕ → List ScriptLine → List Command
commands_of worker [] = []
commands_of worker (l ∷ ls) = (if l.worker == worker then l.command ∷ commands_of worker ls else commands_of worker ls)
