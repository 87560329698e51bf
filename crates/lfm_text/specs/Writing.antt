-- How writing a text changes the bytes that a writer has, if these are known.
use Rattle.std.specs.Prelude.{ℕ, ◌≡◌, ◌++◌, List, [], ◌∷◌, Option, Result, Ok, Err}
use Rattle.std.specs.Io.KnownBytes.{Appends}
use Rattle.lfm_text.specs.declared.faults.WriteFault.{WriteFault}

-- The parts joined to one text. A proof unfolds this only on request, so that the parts stay separate in goals.
unfoldable pub joined : List (List ℕ) → List ℕ
joined [] = []
joined (part ∷ parts) = part ++ joined parts

-- a prefix of a text is appended to the known bytes
pub record AppendsPrefix (old new : Option (List ℕ)) (text : List ℕ) : Type 0 where
  pub prefix : List ℕ
  pub rest : List ℕ
  pub whole : text ≡ prefix ++ rest
  pub appended : Appends old new prefix

-- all of a text is written, or a prefix of it if the writer fails
abbrev pub WriteOutcome : {T : Type 0} → Option (List ℕ) → Option (List ℕ) → List ℕ → Result T WriteFault → Type 0
WriteOutcome old new text (Ok answer) = Appends old new text
WriteOutcome old new text (Err fault) = AppendsPrefix old new text

-- all of a text was written, or a prefix of it before a fault
pub record Writes {T : Type 0} (old new : Option (List ℕ)) (text : List ℕ) (result : Result T WriteFault) : Type 0 where
  pub outcome : WriteOutcome old new text result
