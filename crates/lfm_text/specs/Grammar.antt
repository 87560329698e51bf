-- How a text is read line by line. This is what all grammars have in common, whatever their lines mean.
use Rattle.std.specs.Prelude.{ℕ, Bool, false, true, ◌≡◌, ◌⊎◌, ◌+◌, ◌<◌, ◌++◌, if◌then◌else◌, ⊤, List, [], ◌∷◌, length, Option, Some, None, Result, Ok, Err, zero, suc, is_some, slice_index_or, codes}
use Rattle.std.specs.List.{flat_map}
use Rattle.lfm_text.specs.Text.{words_of, lines_of, is_past_limit}

-- What one grammar defines: what the words of the first line and of a later line are read as, what all lines together give, and
-- its faults: for the line with a number, and for a text that is too long.
pub record Rules (H L P F : Type 0) : Type 0 where
  pub first : List (List ℕ) → Option H
  pub line : List (List ℕ) → Option L
  pub whole : H → List L → Result P F
  pub syntax_fault : ℕ → F
  pub limit_fault : F

-- a line before later lines; a fault of the line comes before faults of later lines
abbrev pub in_front : {L F : Type 0} → F → Option L → Result (List L) F → Result (List L) F
in_front fault None rest = Err fault
in_front fault (Some line) (Ok lines) = Ok (line ∷ lines)
in_front fault (Some line) (Err later) = Err later

-- the lines read from the texts, numbered from the given number, or the fault of the first that can't be read
abbrev pub lines_from : {H L P F : Type 0} → Rules H L P F → ℕ → List (List ℕ) → Result (List L) F
lines_from rules number [] = Ok []
lines_from rules number (text ∷ texts) = in_front (rules.syntax_fault number) (rules.line (words_of text)) (lines_from rules (number + 1) texts)

-- what the first line and those after it give together; a fault of the limits comes last
abbrev pub whole_from : {H L P F : Type 0} → Rules H L P F → Option H → Result (List L) F → Result P F
whole_from rules None rest = Err (rules.syntax_fault 1)
whole_from rules (Some h) (Err fault) = Err fault
whole_from rules (Some h) (Ok lines) = rules.whole h lines

abbrev pub whole_of_lines : {H L P F : Type 0} → Rules H L P F → List (List ℕ) → Result P F
whole_of_lines rules [] = Err (rules.syntax_fault 1)
whole_of_lines rules (first ∷ rest) = whole_from rules (rules.first (words_of first)) (lines_from rules 2 rest)

-- what a text is read as, or its first fault
abbrev pub said_in : {H L P F : Type 0} → Rules H L P F → List ℕ → Result P F
said_in rules text = if is_past_limit text then Err rules.limit_fault else whole_of_lines rules (lines_of text)

-- whether the text can be read as a line at this index
abbrev pub is_line_at : {H L P F : Type 0} → Rules H L P F → ℕ → List ℕ → Bool
is_line_at rules zero text = is_some (rules.first (words_of text))
is_line_at rules (suc k) text = is_some (rules.line (words_of text))

-- the line with this number, counted from 1, is the first that can't be read; in a text without lines this is line 1
pub record IsFirstFault {H L P F : Type 0} (rules : Rules H L P F) (texts : List (List ℕ)) (number : ℕ) : Type 0 where
  pub index : ℕ
  pub counted : number ≡ index + 1
  pub there : (index < length texts) ⊎ ((texts ≡ []) × (index ≡ 0))
  pub fails : is_line_at rules index (slice_index_or texts index []) ≡ false
  pub before : (k : ℕ) → k < index → is_line_at rules k (slice_index_or texts k []) ≡ true

-- ---- how lines are spelled

-- each text spells the line at the same index
abbrev pub EachSpells : {L : Type 0} → (List ℕ → L → Type 0) → List (List ℕ) → List L → Type 0
EachSpells Spells [] [] = ⊤
EachSpells Spells [] (l ∷ ls) = ⊥
EachSpells Spells (t ∷ ts) [] = ⊥
EachSpells Spells (t ∷ ts) (l ∷ ls) = Spells t l × EachSpells Spells ts ls

-- a text that is not too long, whose lines spell this first line and these later lines
pub record SpellsLines {H L : Type 0} (SpellsFirst : List ℕ → H → Type 0) (Spells : List ℕ → L → Type 0) (text : List ℕ) (h : H) (ls : List L) : Type 0 where
  pub short : is_past_limit text ≡ false
  pub first : List ℕ
  pub others : List (List ℕ)
  pub lines : lines_of text ≡ first ∷ others
  pub header : SpellsFirst first h
  pub each : EachSpells Spells others ls

-- the text of a first line and those after it, each ended by a line feed
abbrev pub lines_spelling : {L : Type 0} → (L → List ℕ) → List ℕ → List L → List ℕ
lines_spelling spelling first ls = first ++ (codes "\n" ++ flat_map (λ l. spelling l ++ codes "\n") ls)
