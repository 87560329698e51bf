-- Texts without a space are one word, and texts without a line feed are one line.
use Rattle.std.proofs.Common.{◌≡◌, ◌<◌, ◌^◌, ◌==◌, not, ℕ, true, false, List, [], ◌∷◌, ◌++◌, All, arith, tests, decimal, get_or, ne_eqb}
use Rattle.std.specs.Int.{IsInRange}
use Rattle.std.specs.List.{list_all}
use Rattle.std.proofs.lemmas.Fmt.{digits_decimal}
use Rattle.std.proofs.lemmas.Bool.{not-true}
use Rattle.std.proofs.lemmas.List.Elements.{All-from_get_or, All-append}
use Rattle.std.proofs.lemmas.List.Sums.{AllPass-from_list_all}
use Rattle.std.proofs.lemmas.List.Splits.{slice_split_at, slice_split_none}
use Rattle.std.proofs.lemmas.Str.Parse.{not_in_digits}
use Rattle.lfm_text.specs.Text.{parts_at, lines_of}
use Rattle.lfm_text.proofs.Cutting.{line_first}
use Rattle.lfm_text.proofs.Numbers.{decimal_digits}

-- no byte of the text equals b
abbrev pub Lacks : ℕ → List ℕ → Type 0
Lacks b text = All (λ c. (c == b) ≡ false) text

-- a decimal text has only digits
decimal_lacks : (b n : ℕ) → (IsInRange 48 57 b → ⊥) → n < 10 ^ 18 → Lacks b (decimal n)
decimal_lacks b n no_digit small =
    All-from_get_or (λ c. (c == b) ≡ false) (decimal n) 0
    (λ i h. ne_eqb (get_or (decimal n) i 0) b (not_in_digits decimal_digits (decimal n) b (digits_decimal decimal_digits n (omega (arith, small))) no_digit i h))

-- a text without b, followed by b, is the first part
pub first_part : (b : ℕ) (xs ys : List ℕ) → Lacks b xs → parts_at b (xs ++ b ∷ ys) ≡ xs ∷ parts_at b ys
first_part b xs ys lacks = slice_split_at (λ c. c == b) xs b ys lacks (search (tests, arith))

pub only_part : (b : ℕ) (xs : List ℕ) → Lacks b xs → parts_at b xs ≡ xs ∷ []
only_part b xs lacks = slice_split_none (λ c. c == b) xs lacks

pub no_space : (n : ℕ) → n < 10 ^ 18 → Lacks 32 (decimal n)
no_space n small = decimal_lacks 32 n (λ r. absurd (omega (arith, r))) small

-- a literal text without b
pub literal_lacks : (b : ℕ) (text : List ℕ) → list_all (λ c. not (c == b)) text ≡ true → Lacks b text
literal_lacks b text none = λ k d within. not-true _ (AllPass-from_list_all (λ c. not (c == b)) text none k d within)

pub no_feed : (n : ℕ) → n < 10 ^ 18 → Lacks 10 (decimal n)
no_feed n small = decimal_lacks 10 n (λ r. absurd (omega (arith, r))) small

pub both_lack : (xs ys : List ℕ) → Lacks 10 xs → Lacks 10 ys → Lacks 10 (xs ++ ys)
both_lack xs ys first second = All-append (λ c. (c == 10) ≡ false) xs ys first second

-- a text without a line feed, followed by a line feed, is the first line
pub one_line : (line rest : List ℕ) → Lacks 10 line → lines_of (line ++ 10 ∷ rest) ≡ line ∷ lines_of rest
one_line line rest lacks = line_first (line ++ 10 ∷ rest) line rest (first_part 10 line rest lacks)
