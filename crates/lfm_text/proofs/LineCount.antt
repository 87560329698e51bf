-- The number of lines, and that a text past a limit stays past it with any bytes appended.
use Rattle.std.proofs.Common.{◌≡◌, ◌≢◌, ◌≤◌, ◌<◌, ◌+◌, ◌-◌, ◌==◌, ◌||◌, ℕ, Bool, true, false, cond, nat_lt, List, [], ◌∷◌, ◌++◌, length, refl, sym, ◌∙◌, ap, arith, tests, length-append, append-nil}
use Rattle.std.specs.List.{onto_first}
use Rattle.std.proofs.lemmas.List.Splits.{length-slice_split}
use Rattle.std.proofs.lemmas.List.Sums.{sum_by-cons, sum_by-append}
use Rattle.lfm_text.specs.Text.{parts_at, without_empty_last, lines_of, line_count, is_past_limit, line_feeds, max_bytes, max_lines}

-- 1 for a line feed
abbrev feed : ℕ → ℕ
feed c = cond (c == 10) 1 0

line_feeds-cons : (c : ℕ) (cs : List ℕ) → line_feeds (c ∷ cs) ≡ feed c + line_feeds cs
line_feeds-cons c cs = sum_by-cons (λ b. cond (b == 10) 1 0) c cs

-- a byte before another one adds a line only if it is a line feed
line_count-cons : (c d : ℕ) (ds : List ℕ) → line_count (c ∷ d ∷ ds) ≡ feed c + line_count (d ∷ ds)
line_count-cons c d ds = omega (arith, line_feeds-cons c (d ∷ ds))

line_count_one : (c : ℕ) (t : Bool) → (c == 10) ≡ t → line_count (c ∷ []) ≡ 1
line_count_one c true e = rw e refl
line_count_one c false e = rw e refl

-- a text with a byte has a line
some_line : (c : ℕ) (cs : List ℕ) → 1 ≤ line_count (c ∷ cs)
some_line c [] = omega (arith, line_count_one c (c == 10) refl)
some_line c (d ∷ ds) = omega (arith, line_count-cons c d ds, some_line d ds)

feed-within_one : (c : ℕ) (t : Bool) → (c == 10) ≡ t → feed c ≤ 1
feed-within_one c true e = rw e (omega arith)
feed-within_one c false e = rw e (omega arith)

-- There are at most as many lines as bytes. By induction on the text
line_count-within_length : (xs : List ℕ) → line_count xs ≤ length xs
line_count-within_length [] = omega arith
line_count-within_length (c ∷ []) = omega (arith, line_count_one c (c == 10) refl)
line_count-within_length (c ∷ d ∷ ds) = omega (arith, line_count-cons c d ds, feed-within_one c (c == 10) refl, line_count-within_length (d ∷ ds))

-- appending bytes doesn't lower the number of lines
pub line_count-append : (xs ys : List ℕ) → line_count xs ≤ line_count (xs ++ ys)
line_count-append [] ys = omega arith
line_count-append (c ∷ []) ys = omega (arith, line_count_one c (c == 10) refl, some_line c ys)
line_count-append (c ∷ d ∷ ds) ys = omega (arith, line_count-cons c d ds, line_count-cons c d (ds ++ ys), line_count-append (d ∷ ds) ys)

-- the line feeds of two texts together are those of both
pub line_feeds-append : (xs ys : List ℕ) → line_feeds (xs ++ ys) ≡ line_feeds xs + line_feeds ys
line_feeds-append xs ys = sum_by-append (λ b. cond (b == 10) 1 0) xs ys

-- the number of lines if a text with a byte follows another text
line_count_behind : (xs : List ℕ) (c : ℕ) (cs : List ℕ) → line_count (xs ++ c ∷ cs) ≡ line_feeds xs + line_count (c ∷ cs)
line_count_behind [] c cs = omega arith
line_count_behind (x ∷ []) c cs = omega (arith, line_count-cons x c cs, line_feeds-cons x [])
line_count_behind (x ∷ y ∷ ys) c cs = omega (arith, line_count-cons x y (ys ++ c ∷ cs), line_count_behind (y ∷ ys) c cs, line_feeds-cons x (y ∷ ys))

-- a byte after the greatest number of line feeds is past the limit
pub is_past_limit-after_feeds : (xs ys : List ℕ) → max_lines ≤ line_feeds xs → 0 < length ys → is_past_limit (xs ++ ys) ≡ true
is_past_limit-after_feeds xs [] full some = absurd (omega (arith, some))
is_past_limit-after_feeds xs (c ∷ cs) full some =
    too_many (length (xs ++ c ∷ cs)) (line_count (xs ++ c ∷ cs)) (omega (arith, full, line_count_behind xs c cs, some_line c cs))
  where
    too_many : (bytes lines : ℕ) → max_lines < lines → (nat_lt max_bytes bytes || nat_lt max_lines lines) ≡ true
    too_many bytes lines more = grind (arith, tests)

within_limits : (bytes lines : ℕ) → bytes ≤ max_bytes → lines ≤ max_lines → (nat_lt max_bytes bytes || nat_lt max_lines lines) ≡ false
within_limits bytes lines few_bytes few_lines = grind (arith, tests)

-- a text with further bytes is within the limits if it would be with each further byte as its own line
pub is_past_limit-few_more : (xs ys : List ℕ) → is_past_limit xs ≡ false → length xs + length ys ≤ max_bytes → line_feeds xs + length ys ≤ max_lines
    → is_past_limit (xs ++ ys) ≡ false
is_past_limit-few_more xs [] fits few_bytes few_lines = rw (append-nil xs) fits
is_past_limit-few_more xs (c ∷ cs) fits few_bytes few_lines =
    within_limits (length (xs ++ c ∷ cs)) (line_count (xs ++ c ∷ cs)) (omega (arith, few_bytes, length-append xs (c ∷ cs)))
    (omega (arith, few_lines, line_count_behind xs c cs, line_count-within_length (c ∷ cs)))

-- a text that is not past a limit has at most `max_bytes` bytes and, by the next lemma, at most `max_lines` line feeds
pub few_bytes : (xs : List ℕ) → is_past_limit xs ≡ false → length xs ≤ max_bytes
few_bytes xs fits = short (length xs) (line_count xs) fits
  where
    short : (bytes lines : ℕ) → (nat_lt max_bytes bytes || nat_lt max_lines lines) ≡ false → bytes ≤ max_bytes
    short bytes lines within = grind (arith, tests)

pub few_line_feeds : (xs : List ℕ) → is_past_limit xs ≡ false → line_feeds xs ≤ max_lines
few_line_feeds xs fits = omega (arith, short (length xs) (line_count xs) fits)
  where
    short : (bytes lines : ℕ) → (nat_lt max_bytes bytes || nat_lt max_lines lines) ≡ false → lines ≤ max_lines
    short bytes lines within = grind (arith, tests)

-- a text with too many bytes is past the limit
pub is_past_limit-long : (xs : List ℕ) → max_bytes < length xs → is_past_limit xs ≡ true
is_past_limit-long xs long = too_long (length xs) (line_count xs) long
  where
    too_long : (bytes lines : ℕ) → max_bytes < bytes → (nat_lt max_bytes bytes || nat_lt max_lines lines) ≡ true
    too_long bytes lines more = grind (arith, tests)

either_past : (a b c d : ℕ) → a ≤ c → b ≤ d → (nat_lt max_bytes a || nat_lt max_lines b) ≡ true → (nat_lt max_bytes c || nat_lt max_lines d) ≡ true
either_past a b c d more_bytes more_lines past = grind (arith, tests)

-- a text past a limit stays past it
pub is_past_limit-append : (xs ys : List ℕ) → is_past_limit xs ≡ true → is_past_limit (xs ++ ys) ≡ true
is_past_limit-append xs ys past =
    either_past (length xs) (line_count xs) (length (xs ++ ys)) (line_count (xs ++ ys)) (omega (arith, length-append xs ys)) (line_count-append xs ys) past

-- the parts of a text with a byte are not one empty part
not_one_empty : (d : ℕ) (ds : List ℕ) (t : Bool) → (d == 10) ≡ t → parts_at 10 (d ∷ ds) ≢ [] ∷ []
not_one_empty d ds true e = λ one. omega (arith, length-slice_split (λ b. b == 10) ds, ap length (rw e at one))
not_one_empty d ds false e = λ one. onto_not_empty d (parts_at 10 ds) (rw e at one)
  where
    onto_not_empty : (c : ℕ) (parts : List (List ℕ)) → onto_first c parts ≢ [] ∷ []
    onto_not_empty c [] = λ e. cc
    onto_not_empty c (part ∷ parts) = λ e. cc

one_part : (b : ℕ) (bs : List ℕ) → length (without_empty_last ((b ∷ bs) ∷ [])) ≡ 1
one_part b bs = let some : (length (b ∷ bs) == 0) ≡ false = search (tests, arith) in rw some refl

-- a byte put before the first part makes no new line
length_onto : (c : ℕ) (parts : List (List ℕ)) → 0 < length parts → parts ≢ [] ∷ [] → length (without_empty_last (onto_first c parts)) ≡ length (without_empty_last parts)
length_onto c [] some full = absurd (omega (arith, some))
length_onto c ([] ∷ []) some full = absurd (full refl)
length_onto c ((b ∷ bs) ∷ []) some full = one_part c (b ∷ bs) ∙ sym (one_part b bs)
length_onto c (part ∷ next ∷ parts) some full = refl

length_behind : (part : List ℕ) (parts : List (List ℕ)) → 0 < length parts → length (without_empty_last (part ∷ parts)) ≡ 1 + length (without_empty_last parts)
length_behind part [] some = absurd (omega (arith, some))
length_behind part (next ∷ parts) some = omega arith

length_lines-cons : (c d : ℕ) (ds : List ℕ) (t : Bool) → (c == 10) ≡ t → length (lines_of (c ∷ d ∷ ds)) ≡ feed c + length (lines_of (d ∷ ds))
length_lines-cons c d ds true e =
    rw e (length_behind [] (parts_at 10 (d ∷ ds)) (omega (arith, length-slice_split (λ b. b == 10) (d ∷ ds))))
length_lines-cons c d ds false e =
    rw e (omega (arith, length_onto c (parts_at 10 (d ∷ ds)) (omega (arith, length-slice_split (λ b. b == 10) (d ∷ ds))) (not_one_empty d ds (d == 10) refl)))

length_lines_one : (c : ℕ) (t : Bool) → (c == 10) ≡ t → length (lines_of (c ∷ [])) ≡ 1
length_lines_one c true e = rw e refl
length_lines_one c false e = rw e refl

-- `line_count` is the number of lines. By induction on the text
pub length-lines_of : (text : List ℕ) → length (lines_of text) ≡ line_count text
length-lines_of [] = refl
length-lines_of (c ∷ []) = length_lines_one c (c == 10) refl ∙ sym (line_count_one c (c == 10) refl)
length-lines_of (c ∷ d ∷ ds) = omega (arith, length_lines-cons c d ds (c == 10) refl, line_count-cons c d ds, length-lines_of (d ∷ ds))

-- the text after the first line has one line fewer
pub rest_counted : (text line rest : List ℕ) → lines_of text ≡ line ∷ lines_of rest → (1 ≤ line_count text) × (length (lines_of rest) ≡ line_count text - 1)
rest_counted text line rest e =
    let all : line_count text ≡ 1 + length (lines_of rest) = omega (arith, length-lines_of text, ap length e) in
    (omega (arith, all), omega (arith, all))
