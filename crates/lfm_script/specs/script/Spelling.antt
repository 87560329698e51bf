-- How scripts are written: a text for each line, and for a whole script.
use Rattle.std.specs.Prelude.{ℕ, ◌≡◌, ◌<◌, ◌^◌, List, ◌++◌, All as ForAll, codes, decimal}
use Rattle.lfm_script.specs.declared.script.Command.{Command}
use Rattle.lfm_script.specs.declared.script.Command.TheVariants.{Add, Until, One, All}
use Rattle.lfm_script.specs.declared.script.ScriptLine.{ScriptLine}
use Rattle.lfm_text.specs.Grammar.{SpellsLines, lines_spelling}
use Rattle.lfm_script.specs.script.Grammar.{Plan}

abbrev pub command_spelling : Command → List ℕ
command_spelling (Add k) = codes "add " ++ decimal k
command_spelling (Until c k) = codes "until " ++ (decimal c ++ (codes " " ++ decimal k))
command_spelling (One c) = codes "one " ++ decimal c
command_spelling (All c) = codes "all " ++ decimal c

-- a line after the first
abbrev pub line_spelling : ScriptLine → List ℕ
line_spelling l = decimal l.worker ++ (codes " " ++ command_spelling l.command)

-- the first line
abbrev pub header_spelling : ℕ → ℕ → List ℕ
header_spelling workers conditions = codes "workers " ++ (decimal workers ++ (codes " " ++ decimal conditions))

-- a whole script, with a line feed after each line
abbrev pub plan_spelling : Plan → List ℕ
plan_spelling p = lines_spelling line_spelling (header_spelling p.workers p.conditions) p.lines

-- a command whose numbers have at most 18 digits
abbrev pub IsWritableCommand : Command → Type 0
IsWritableCommand (Add k) = k < 10 ^ 18
IsWritableCommand (Until c k) = (c < 10 ^ 18) × (k < 10 ^ 18)
IsWritableCommand (One c) = c < 10 ^ 18
IsWritableCommand (All c) = c < 10 ^ 18

-- a line whose numbers have at most 18 digits
pub record IsWritable (l : ScriptLine) : Type 0 where
  pub worker : l.worker < 10 ^ 18
  pub command : IsWritableCommand l.command

-- a script whose numbers all have at most 18 digits
pub record IsWritablePlan (p : Plan) : Type 0 where
  pub workers : p.workers < 10 ^ 18
  pub conditions : p.conditions < 10 ^ 18
  pub lines : ForAll IsWritable p.lines

-- the text is a first line whose numbers have at most 18 digits
abbrev pub SpellsFirst : List ℕ → ℕ × ℕ → Type 0
SpellsFirst text h = (text ≡ header_spelling h.0 h.1) × (h.0 < 10 ^ 18) × (h.1 < 10 ^ 18)

-- the text is a line whose numbers have at most 18 digits
abbrev pub Spells : List ℕ → ScriptLine → Type 0
Spells text l = (text ≡ line_spelling l) × IsWritable l

-- the text is not too long, and its lines spell those of the plan; numbers may be out of range
abbrev pub SpellsPlan : List ℕ → Plan → Type 0
SpellsPlan text p = SpellsLines SpellsFirst Spells text (p.workers, p.conditions) p.lines
