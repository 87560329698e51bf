-- The lines, words and numbers of a text, and how long a text may be.
use Rattle.std.specs.Prelude.{ℕ, Bool, false, not, ◌≡◌, ◌≢◌, ◌+◌, ◌==◌, ◌||◌, nat_lt, if◌then◌else◌, List, [], ◌∷◌, length, slice_index, count_by, Option, Some, None}
use Rattle.std.specs.List.{slice_split}
use Rattle.std.specs.Str.{all_ascii_digits}
use Rattle.std.specs.Str.Parse.{digits_value}
use Rattle.lfm_text.specs.declared.parsing.LineWords.{LineWords}
use Rattle.lfm_text.specs.declared.parsing.LineWords.TheVariants.{Two, Three, Four, Other}

-- the parts of a text between the bytes that equal b
abbrev pub parts_at : ℕ → List ℕ → List (List ℕ)
parts_at b text = slice_split (λ c. c == b) text

-- the parts, without the last one if it has no byte
abbrev pub without_empty_last : List (List ℕ) → List (List ℕ)
without_empty_last [] = []
without_empty_last (part ∷ []) = if length part == 0 then [] else part ∷ []
without_empty_last (part ∷ next ∷ parts) = part ∷ without_empty_last (next ∷ parts)

-- the lines of a text: each ends with a line feed, which may be missing at the end of the last one
abbrev pub lines_of : List ℕ → List (List ℕ)
lines_of text = without_empty_last (parts_at 10 text)

-- the words of a line, separated by one space
abbrev pub words_of : List ℕ → List (List ℕ)
words_of line = parts_at 32 line

-- these are the words, if there are two to four of them
abbrev pub AreWords : LineWords → List (List ℕ) → Type 0
AreWords (Two first second) words = words ≡ first.now ∷ second.now ∷ []
AreWords (Three first second third) words = words ≡ first.now ∷ second.now ∷ third.now ∷ []
AreWords (Four first second third fourth) words = words ≡ first.now ∷ second.now ∷ third.now ∷ fourth.now ∷ []
AreWords Other words = (length words ≢ 2) × (length words ≢ 3) × (length words ≢ 4)

-- the number with these digits
abbrev pub digits_number : List ℕ → Option ℕ
digits_number word = if all_ascii_digits word then Some (digits_value 10 word) else None

-- the greatest number of digits of a number
abbrev pub max_digits : ℕ
max_digits = 18

-- a number: at most 18 digits, the first of which is zero only if it is the only one
abbrev pub number_of : List ℕ → Option ℕ
number_of [] = None
number_of (c ∷ []) = digits_number (c ∷ [])
number_of (c ∷ d ∷ cs) = if c == 48 || nat_lt max_digits (length (c ∷ d ∷ cs)) then None else digits_number (c ∷ d ∷ cs)

-- the number of line feeds
abbrev pub line_feeds : List ℕ → ℕ
line_feeds text = count_by (λ b. b == 10) text

-- whether a text ends in the middle of a line
abbrev pub is_unfinished : List ℕ → Bool
is_unfinished [] = false
is_unfinished (c ∷ cs) = not (slice_index (c ∷ cs) (length cs) == 10)

-- the number of line feeds, and one more for an unfinished last line
abbrev pub line_count : List ℕ → ℕ
line_count text = line_feeds text + (if is_unfinished text then 1 else 0)

-- the greatest number of bytes and of lines of a text
abbrev pub max_bytes : ℕ
max_bytes = 1048576

abbrev pub max_lines : ℕ
max_lines = 65536

-- whether a text has too many bytes or too many lines
abbrev pub is_past_limit : List ℕ → Bool
is_past_limit text = nat_lt max_bytes (length text) || nat_lt max_lines (line_count text)
