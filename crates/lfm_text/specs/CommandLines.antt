-- The words on a command line.
use Rattle.std.specs.Prelude.{List, [], ◌∷◌, String}
use Rattle.std.specs.Global.{Global}
use Rattle.lfm_text.specs.declared.command_line.CommandLine.{CommandLine}
use Rattle.lfm_text.specs.declared.command_line.CommandLine.TheVariants.{Empty, Word, Other}

-- the command line after the program's name, which is the first word
abbrev pub after_name : List (String Global) → CommandLine
after_name [] = Empty
after_name (name ∷ []) = Empty
after_name (name ∷ word ∷ []) = Word word
after_name (name ∷ word ∷ next ∷ words) = Other
