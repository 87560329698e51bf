-- A text that is read as a line or as a first line of a script is the spelling of that line.
use Rattle.std.proofs.Common.{ap, ◌≡◌, ◌<◌, ◌^◌, ℕ, Bool, true, false, cond, List, [], ◌∷◌, ◌++◌, Option, Some, None, refl, codes, decimal}
use Rattle.std.specs.Str.{bytes_eq}
use Rattle.std.specs.List.{join_with_byte}
use Rattle.std.proofs.lemmas.List.Splits.{join_with_byte-slice_split}
use Rattle.std.proofs.lemmas.Slice.Eq.{bytes_eq-Decides}
use Rattle.lfm_text.specs.Text.{words_of, number_of}
use Rattle.lfm_text.proofs.Numbers.{only}
use Rattle.lfm_text.proofs.Spelled.{choose}
use Rattle.lfm_script.specs.declared.script.Command.{Command}
use Rattle.lfm_script.specs.declared.script.Command.TheVariants.{Add, Until, One, All}
use Rattle.lfm_script.specs.declared.script.ScriptLine.{ScriptLine}
use Rattle.lfm_script.specs.script.Grammar.{short_command_of, short_command, until_command, worker_line, line_of, header, header_of}
use Rattle.lfm_script.specs.script.Spelling.{command_spelling, line_spelling, header_spelling, IsWritableCommand, IsWritable}

-- the text is the spelling of the command
record IsCommand (text : List ℕ) (m : Command) : Type 0 where
  spelled : text ≡ command_spelling m
  writable : IsWritableCommand m

-- a word and what follows it are a command
abbrev IsSpelled : List ℕ → List ℕ → Command → Type 0
IsSpelled tail word m = IsCommand (word ++ tail) m

short_only : (word : List ℕ) (k : ℕ) (m : Command) → k < 10 ^ 18 → short_command_of word k ≡ Some m → IsCommand (word ++ 32 ∷ decimal k) m
short_only word k m small =
    choose (IsSpelled (32 ∷ decimal k)) word (codes "add") (Add k) m _ (record { spelled = refl; writable = small })
    (choose (IsSpelled (32 ∷ decimal k)) word (codes "one") (One k) m _ (record { spelled = refl; writable = small })
    (choose (IsSpelled (32 ∷ decimal k)) word (codes "all") (All k) m None (record { spelled = refl; writable = small }) (λ e. absurd (cc))))

-- the text is the spelling of the line
record IsLine (text : List ℕ) (l : ScriptLine) : Type 0 where
  spelled : text ≡ line_spelling l
  writable : IsWritable l

short_line_only : (w word t : List ℕ) (n k : Option ℕ) (l : ScriptLine) → number_of w ≡ n → number_of t ≡ k → worker_line n (short_command word k) ≡ Some l
    → IsLine (w ++ 32 ∷ (word ++ 32 ∷ t)) l
short_line_only w word t None k l worker number e = absurd (cc)
short_line_only w word t (Some n) None l worker number e = absurd (cc)
short_line_only w word t (Some n) (Some k) l worker number e = by_command (short_command_of word k) refl e
  where
    by_command : (o : Option Command) → short_command_of word k ≡ o → worker_line (Some n) o ≡ Some l → IsLine (w ++ 32 ∷ (word ++ 32 ∷ t)) l
    by_command None says e = absurd (cc)
    by_command (Some m) says e =
        let is_line : record { worker = n; command = m } ≡ l = cc in
        let first : (w ≡ decimal n) × (n < 10 ^ 18) = only w n worker in
        let last : (t ≡ decimal k) × (k < 10 ^ 18) = only t k number in
        let form : IsCommand (word ++ 32 ∷ decimal k) m = short_only word k m last.1 says in
        rw (first.0, last.0, ← is_line) (record {
          spelled = ap (λ x. decimal n ++ 32 ∷ x) form.spelled;
          writable = record { worker = first.1; command = form.writable };
        })

until_line_only : (w word c t : List ℕ) (n o k : Option ℕ) (l : ScriptLine) → word ≡ codes "until" → number_of w ≡ n → number_of c ≡ o → number_of t ≡ k → worker_line n (until_command o k) ≡ Some l
    → IsLine (w ++ 32 ∷ (word ++ 32 ∷ (c ++ 32 ∷ t))) l
until_line_only w word c t None o k l is worker condition number e = absurd (cc)
until_line_only w word c t (Some n) None k l is worker condition number e = absurd (cc)
until_line_only w word c t (Some n) (Some j) None l is worker condition number e = absurd (cc)
until_line_only w word c t (Some n) (Some j) (Some k) l is worker condition number e =
    let is_line : record { worker = n; command = Until j k } ≡ l = cc in
    let first : (w ≡ decimal n) × (n < 10 ^ 18) = only w n worker in
    let middle : (c ≡ decimal j) × (j < 10 ^ 18) = only c j condition in
    let last : (t ≡ decimal k) × (k < 10 ^ 18) = only t k number in
    rw (is, first.0, middle.0, last.0, ← is_line) (record {
      spelled = refl;
      writable = record { worker = first.1; command = (middle.1, last.1) };
    })

words_only : (words : List (List ℕ)) (l : ScriptLine) → line_of words ≡ Some l → IsLine (join_with_byte 32 words) l
words_only [] l e = absurd (cc)
words_only (a ∷ []) l e = absurd (cc)
words_only (a ∷ b ∷ []) l e = absurd (cc)
words_only (w ∷ word ∷ t ∷ []) l e = short_line_only w word t (number_of w) (number_of t) l refl refl e
words_only (w ∷ word ∷ c ∷ t ∷ []) l e = by_test (bytes_eq word (codes "until")) refl e
  where
    by_test : (b : Bool) → bytes_eq word (codes "until") ≡ b → cond b (worker_line (number_of w) (until_command (number_of c) (number_of t))) None ≡ Some l
        → IsLine (w ++ 32 ∷ (word ++ 32 ∷ (c ++ 32 ∷ t))) l
    by_test true same e = until_line_only w word c t (number_of w) (number_of c) (number_of t) l ((bytes_eq-Decides word (codes "until")).0 same) refl refl refl e
    by_test false same e = absurd (cc)
words_only (a ∷ b ∷ c ∷ d ∷ f ∷ more) l e = absurd (cc)

-- a text that is read as a line is its spelling
pub line_only : (text : List ℕ) (l : ScriptLine) → line_of (words_of text) ≡ Some l → (text ≡ line_spelling l) × IsWritable l
line_only text l e =
    let line : IsLine text l = rw (join_with_byte-slice_split 32 text) at (words_only (words_of text) l e) in
    (line.spelled, line.writable)

-- the text is the spelling of the first line
record IsHeader (text : List ℕ) (n c : ℕ) : Type 0 where
  spelled : text ≡ header_spelling n c
  small : n < 10 ^ 18
  short : c < 10 ^ 18

numbers_only : (w s t : List ℕ) (o m : Option ℕ) (n c : ℕ) → w ≡ codes "workers" → number_of s ≡ o → number_of t ≡ m → header o m ≡ Some (n, c) → IsHeader (w ++ 32 ∷ (s ++ 32 ∷ t)) n c
numbers_only w s t None m n c word workers conditions e = absurd (cc)
numbers_only w s t (Some k) None n c word workers conditions e = absurd (cc)
numbers_only w s t (Some k) (Some j) n c word workers conditions e =
    let same : ◌≡◌ {A = ℕ × ℕ} (k, j) (n, c) = cc in
    let left : k ≡ n = ap (λ p. p.0) same in
    let right : j ≡ c = ap (λ p. p.1) same in
    let first : (s ≡ decimal k) × (k < 10 ^ 18) = only s k workers in
    let second : (t ≡ decimal j) × (j < 10 ^ 18) = only t j conditions in
    rw (word, first.0, second.0, ← left, ← right) (record { spelled = refl; small = first.1; short = second.1 })

header_words_only : (words : List (List ℕ)) (n c : ℕ) → header_of words ≡ Some (n, c) → IsHeader (join_with_byte 32 words) n c
header_words_only [] n c e = absurd (cc)
header_words_only (a ∷ []) n c e = absurd (cc)
header_words_only (a ∷ b ∷ []) n c e = absurd (cc)
header_words_only (w ∷ s ∷ t ∷ []) n c e = by_test (bytes_eq w (codes "workers")) refl e
  where
    by_test : (b : Bool) → bytes_eq w (codes "workers") ≡ b → cond b (header (number_of s) (number_of t)) None ≡ Some (n, c) → IsHeader (w ++ 32 ∷ (s ++ 32 ∷ t)) n c
    by_test true same e = numbers_only w s t (number_of s) (number_of t) n c ((bytes_eq-Decides w (codes "workers")).0 same) refl refl e
    by_test false same e = absurd (cc)
header_words_only (a ∷ b ∷ c ∷ d ∷ more) n k e = absurd (cc)

-- a text that is read as a first line is its spelling
pub header_only : (text : List ℕ) (n c : ℕ) → header_of (words_of text) ≡ Some (n, c) → (text ≡ header_spelling n c) × (n < 10 ^ 18) × (c < 10 ^ 18)
header_only text n c e =
    let line : IsHeader text n c = rw (join_with_byte-slice_split 32 text) at (header_words_only (words_of text) n c e) in
    (line.spelled, line.small, line.short)
