-- What is taken from a reader as a text.
use Rattle.std.specs.Prelude.{ℕ, false, ◌≡◌, ◌-◌, List, take, length, Option}
use Rattle.std.specs.Io.KnownBytes.{Consumes, IsAtEnd}
use Rattle.lfm_text.specs.Text.{is_past_limit}

-- the greatest number of bytes that one read asks for
abbrev pub read_size : ℕ
read_size = 4096

-- The text was taken from the start of the known bytes. It is all of them, or those up to and including the first byte that is
-- past a limit.
pub record Takes (old new : Option (List ℕ)) (text : List ℕ) : Type 0 where
  pub taken : Consumes old new text
  pub first : is_past_limit (take (length text - 1) text) ≡ false
  pub whole : is_past_limit text ≡ false → IsAtEnd new

-- only a text that is not past a limit was taken from the known bytes
pub record TakesWithin (old new : Option (List ℕ)) : Type 0 where
  pub text : List ℕ
  pub taken : Consumes old new text
  pub within : is_past_limit text ≡ false
