-- How the bytes that were taken from a reader grow, one read at a time.
use Rattle.std.proofs.Common.{◌≡◌, ◌≤◌, ◌<◌, ◌+◌, ◌-◌, ℕ, false, List, ◌++◌, length, take, Option, Some, None, sym, ◌∙◌, ap, subst, append_assoc, arith, length-append, length-take}
use Rattle.std.specs.Io.KnownBytes.{Consumes, Keeps}
use Rattle.std.proofs.Math.Seq.{take-append-add}
use Rattle.std.proofs.lemmas.List.{take-append-le}
use Rattle.lfm_text.specs.Text.{line_feeds, max_bytes, max_lines, is_past_limit}
use Rattle.lfm_text.proofs.LineCount.{is_past_limit-few_more, line_feeds-append}

Consumes-then : (a b c : Option (List ℕ)) (xs ys : List ℕ) → Consumes a b xs → Consumes b c ys → Consumes a c (xs ++ ys)
Consumes-then None b c xs ys p q = tt
Consumes-then (Some u) None c xs ys p q = absurd p
Consumes-then (Some u) (Some v) None xs ys p q = absurd q
Consumes-then (Some u) (Some v) (Some w) xs ys p q = p ∙ ap (λ l. xs ++ l) q ∙ sym (append_assoc xs ys w)

-- a read gave n bytes into a buffer, and they were appended to the bytes taken before
pub taken_more : (a b c : Option (List ℕ)) (before given rest after : List ℕ) (n : ℕ) → n ≤ length given
    → Consumes a b before → Consumes b c (take n given) → after ≡ before ++ take n (given ++ rest) → Consumes a c after
taken_more a b c before given rest after n within p q is =
    let same : after ≡ before ++ take n given = is ∙ ap (λ l. before ++ l) (take-append-le n given rest within) in
    subst (Consumes a c) (sym same) (Consumes-then a b c before (take n given) p q)

-- the same if the last read failed
pub taken_kept : (a b c : Option (List ℕ)) (xs : List ℕ) → Consumes a b xs → Keeps b c → Consumes a c xs
taken_kept None b c xs p q = tt
taken_kept (Some u) None c xs p q = absurd p
taken_kept (Some u) (Some v) None xs p q = absurd q
taken_kept (Some u) (Some v) (Some w) xs p q = p ∙ ap (λ l. xs ++ l) (sym q)

-- A text was not past a limit when a read gave n more bytes. The read asked for at most one byte more than the limits still
-- allow. So without the last byte the text is not past a limit.
pub none_after_first : (before given rest after : List ℕ) (n : ℕ) → is_past_limit before ≡ false → n ≤ length given → 0 < n
    → length before + n ≤ max_bytes + 1 → line_feeds before + n ≤ max_lines + 1 → after ≡ before ++ take n (given ++ rest)
    → is_past_limit (take (length after - 1) after) ≡ false
none_after_first before given rest after n fits within some few_bytes few_lines is =
    let size : length (take n given) ≡ n = omega (arith, length-take n given, within) in
    let same : after ≡ before ++ take n given = is ∙ ap (λ l. before ++ l) (take-append-le n given rest within) in
    let shorter : length after - 1 ≡ length before + (n - 1) = omega (arith, some, size, ap length same, length-append before (take n given)) in
    let front : take (length after - 1) after ≡ before ++ take (n - 1) (take n given) =
    rw shorter (ap (take (length before + (n - 1))) same ∙ take-append-add before (take n given) (n - 1)) in
    let fewer : length (take (n - 1) (take n given)) ≡ n - 1 = omega (arith, size, length-take (n - 1) (take n given)) in
    let P : List ℕ → Type 0 = λ l. is_past_limit l ≡ false in
    subst P (sym front) (is_past_limit-few_more before (take (n - 1) (take n given)) fits (omega (arith, some, fewer, few_bytes)) (omega (arith, some, fewer, few_lines)))

-- the length of the text after a read, and the number of its line feeds
pub size_after : (before given rest after : List ℕ) (n : ℕ) → n ≤ length given → after ≡ before ++ take n (given ++ rest) → length after ≡ length before + n
size_after before given rest after n within is =
    omega (arith, within, ap length is, length-append before (take n (given ++ rest)), length-take n (given ++ rest), length-append given rest)

pub line_feeds_after : (before more after : List ℕ) → after ≡ before ++ more → line_feeds after ≡ line_feeds before + line_feeds more
line_feeds_after before more after is = ap line_feeds is ∙ line_feeds-append before more
