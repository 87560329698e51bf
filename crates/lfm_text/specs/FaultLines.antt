-- The lines that are written for the faults of a text.
use Rattle.std.specs.Prelude.{ℕ, List, [], ◌∷◌, codes, decimal}
use Rattle.lfm_text.specs.Writing.{joined}

-- the line with this number can't be read
abbrev pub syntax_text : ℕ → List ℕ
syntax_text number = joined (codes "fault Syntax " ∷ decimal number ∷ codes "\n" ∷ [])

-- the text is past a limit
abbrev pub limit_text : List ℕ
limit_text = codes "fault Limit\n"
