-- Lines that were read before the remaining ones.
use Rattle.std.proofs.Common.{◌≡◌, ◌+◌, ℕ, List, [], ◌∷◌, ◌++◌, Option, Some, None, Result, Ok, Err, refl, ap, append_assoc}
use Rattle.lfm_text.specs.Text.{words_of}
use Rattle.lfm_text.specs.Grammar.{Rules, in_front, lines_from}

-- the lines of a result after a prefix of lines
abbrev pub after_prefix : {L F : Type 0} → List L → Result (List L) F → Result (List L) F
after_prefix prefix (Ok lines) = Ok (prefix ++ lines)
after_prefix prefix (Err fault) = Err fault

one_more : {L F : Type 0} (prefix : List L) (line : L) (r : Result (List L) F) (fault : F) → after_prefix (prefix ++ line ∷ []) r ≡ after_prefix prefix (in_front fault (Some line) r)
one_more prefix line (Ok lines) fault = ap Ok (append_assoc prefix (line ∷ []) lines)
one_more prefix line (Err later) fault = refl

-- a line that can be read is appended to the prefix
pub goes_on : {H L P F : Type 0} (rules : Rules H L P F) (number : ℕ) (prefix : List L) (texts rest : List (List ℕ)) (text : List ℕ) (line : L) → texts ≡ text ∷ rest
    → rules.line (words_of text) ≡ Some line → after_prefix (prefix ++ line ∷ []) (lines_from rules (number + 1) rest) ≡ after_prefix prefix (lines_from rules number texts)
goes_on rules number prefix texts rest text line e some = rw (e, some) (one_more prefix line (lines_from rules (number + 1) rest) (rules.syntax_fault number))
