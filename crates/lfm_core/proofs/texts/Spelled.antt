-- A text that is read as a line or as a first line is one of its spellings.
use Rattle.std.proofs.Common.{ap, ◌≡◌, ◌≤◌, ◌<◌, ◌^◌, ◌==◌, ◌&&◌, nat_le, ℕ, Bool, true, false, cond, List, [], ◌∷◌, ◌++◌, Option, Some, None, ◌⊎◌, refl, arith, tests, codes, decimal, inl, inr}
use Rattle.std.specs.Str.{bytes_eq}
use Rattle.std.specs.List.{join_with_byte}
use Rattle.std.proofs.lemmas.List.Splits.{join_with_byte-slice_split}
use Rattle.std.proofs.lemmas.Slice.Eq.{bytes_eq-Decides}
use Rattle.lfm_protocol.specs.declared.answers.Call.TheVariants.{Lock, TryLock, Unlock, StartWait, SendLock, Receive}
use Rattle.lfm_core.specs.declared.text.schedule.Act.{Act}
use Rattle.lfm_core.specs.declared.text.schedule.Act.TheVariants.{Begin, Steps, ToEnd}
use Rattle.lfm_core.specs.declared.text.schedule.Line.{Line}
use Rattle.lfm_text.specs.Text.{words_of, number_of}
use Rattle.lfm_core.specs.text.Grammar.{max_steps, steps_of, plain_act_of, act_of, seat_line, send_act, line_of, header, header_of}
use Rattle.lfm_protocol.specs.declared.limits.Limits.{Limits}
use Rattle.lfm_protocol.specs.Limits.{max_budget}
use Rattle.lfm_core.specs.text.Spelling.{act_spelling, IsWritableAct, IsWritable, Spells, SpellsHeader}
use Rattle.lfm_text.proofs.Numbers.{only}
use Rattle.lfm_text.proofs.Spelled.{choose}

-- the word is a spelling of the act, in one of its forms
record IsForm (word : List ℕ) (a : Act) : Type 0 where
  written : (word ≡ act_spelling a) ⊎ ((a ≡ Steps 1) × (word ≡ codes "."))
  writable : IsWritableAct a

full : (a : Act) → IsWritableAct a → IsForm (act_spelling a) a
full a writable = record { written = inl refl; writable = writable }

plain_only : (word : List ℕ) (a : Act) → plain_act_of word ≡ Some a → IsForm word a
plain_only word a =
    let one : IsForm (codes ".") (Steps 1) = record { written = inr (refl, refl); writable = (omega arith, omega arith) } in
    choose IsForm word (codes ".") (Steps 1) a _ one
    (choose IsForm word (codes "*") ToEnd a _ (full ToEnd tt)
    (choose IsForm word (codes "lock") (Begin Lock) a _ (full (Begin Lock) tt)
    (choose IsForm word (codes "try_lock") (Begin TryLock) a _ (full (Begin TryLock) tt)
    (choose IsForm word (codes "unlock") (Begin Unlock) a _ (full (Begin Unlock) tt)
    (choose IsForm word (codes "start_wait") (Begin StartWait) a _ (full (Begin StartWait) tt)
    (choose IsForm word (codes "receive") (Begin Receive) a None (full (Begin Receive) tt) (λ e. absurd (cc))))))))

steps_only : (digits : List ℕ) (n : Option ℕ) (a : Act) → number_of digits ≡ n → steps_of n ≡ Some a → IsForm (43 ∷ digits) a
steps_only digits None a number e = absurd (cc)
steps_only digits (Some k) a number e = by_test (nat_le 1 k && nat_le k max_steps) refl e
  where
    by_test : (t : Bool) → (nat_le 1 k && nat_le k max_steps) ≡ t → cond t (Some (Steps k)) None ≡ Some a → IsForm (43 ∷ digits) a
    by_test true few e =
        let is_steps : Steps k ≡ a = cc in
        let spelled : digits ≡ decimal k = (only digits k number).0 in
        let range : (1 ≤ k) × (k ≤ 999) = grind (arith, tests) in
        rw (spelled, ← is_steps) (full (Steps k) range)
    by_test false few e = absurd (cc)

act_only : (word : List ℕ) (a : Act) → act_of word ≡ Some a → IsForm word a
act_only [] a e = plain_only [] a e
act_only (c ∷ cs) a e = by_test (c == 43) refl e
  where
    by_test : (t : Bool) → (c == 43) ≡ t → cond t (steps_of (number_of cs)) (plain_act_of (c ∷ cs)) ≡ Some a → IsForm (c ∷ cs) a
    by_test true plus e = let is_plus : c ≡ 43 = search (tests, arith) in rw is_plus (steps_only cs (number_of cs) a refl e)
    by_test false plus e = plain_only (c ∷ cs) a e

-- a text that spells a line whose numbers are within their limits
record IsLine (text : List ℕ) (l : Line) : Type 0 where
  spells : Spells text l
  writable : IsWritable l

seat_only : (s w : List ℕ) (n : Option ℕ) (o : Option Act) (l : Line) → number_of s ≡ n → act_of w ≡ o → seat_line n o ≡ Some l → IsLine (s ++ 32 ∷ w) l
seat_only s w None o l number act e = absurd (cc)
seat_only s w (Some n) None l number act e = absurd (cc)
seat_only s w (Some n) (Some a) l number act e =
    let is_line : record { seat = n; act = a } ≡ l = cc in
    let spelled : (s ≡ decimal n) × (n < 10 ^ 18) = only s n number in
    let form : IsForm w a = act_only w a act in
    rw (spelled.0, ← is_line) (record {
      spells = elim form.written [ inl full ↦ inl (rw full refl) | inr dot ↦ inr (dot.0, rw dot.1 refl) ];
      writable = record { seat = spelled.1; act = form.writable };
    })

send_only : (s c t : List ℕ) (n m : Option ℕ) (l : Line) → c ≡ codes "send_lock" → number_of s ≡ n → number_of t ≡ m → seat_line n (send_act m) ≡ Some l → IsLine (s ++ 32 ∷ (c ++ 32 ∷ t)) l
send_only s c t None m l call number target e = absurd (cc)
send_only s c t (Some n) None l call number target e = absurd (cc)
send_only s c t (Some n) (Some m) l call number target e =
    let is_line : record { seat = n; act = Begin (SendLock m) } ≡ l = cc in
    let seat : (s ≡ decimal n) × (n < 10 ^ 18) = only s n number in
    let aim : (t ≡ decimal m) × (m < 10 ^ 18) = only t m target in
    rw (call, seat.0, aim.0, ← is_line) (record { spells = inl refl; writable = record { seat = seat.1; act = aim.1 } })

words_only : (words : List (List ℕ)) (l : Line) → line_of words ≡ Some l → IsLine (join_with_byte 32 words) l
words_only [] l e = absurd (cc)
words_only (a ∷ []) l e = absurd (cc)
words_only (s ∷ w ∷ []) l e = seat_only s w (number_of s) (act_of w) l refl refl e
words_only (s ∷ c ∷ t ∷ []) l e = by_test (bytes_eq c (codes "send_lock")) refl e
  where
    by_test : (b : Bool) → bytes_eq c (codes "send_lock") ≡ b → cond b (seat_line (number_of s) (send_act (number_of t))) None ≡ Some l → IsLine (s ++ 32 ∷ (c ++ 32 ∷ t)) l
    by_test true same e = send_only s c t (number_of s) (number_of t) l ((bytes_eq-Decides c (codes "send_lock")).0 same) refl refl e
    by_test false same e = absurd (cc)
words_only (a ∷ b ∷ c ∷ d ∷ more) l e = absurd (cc)

-- a text that is read as a line is a spelling of it
pub line_only : (text : List ℕ) (l : Line) → line_of (words_of text) ≡ Some l → Spells text l × IsWritable l
line_only text l e =
    let line : IsLine text l = rw (join_with_byte-slice_split 32 text) at (words_only (words_of text) l e) in
    (line.spells, line.writable)

-- a text that spells a first line whose numbers are within their limits
record IsHeader (text : List ℕ) (n b : ℕ) : Type 0 where
  spells : SpellsHeader text n b
  small : n < 10 ^ 18
  short : b < 10 ^ 18

short_header_only : (w s : List ℕ) (o : Option ℕ) (n b : ℕ) → w ≡ codes "seats" → number_of s ≡ o → header o (Some max_budget) ≡ Some (record { seats = n; budget = b }) → IsHeader (w ++ 32 ∷ s) n b
short_header_only w s None n b word number e = absurd (cc)
short_header_only w s (Some k) n b word number e =
    let same : ◌≡◌ {A = Limits} (record { seats = k; budget = max_budget }) (record { seats = n; budget = b }) = cc in
    let seats : k ≡ n = ap (λ p. p.seats) same in
    let budget : max_budget ≡ b = ap (λ p. p.budget) same in
    let spelled : (s ≡ decimal k) × (k < 10 ^ 18) = only s k number in
    rw (word, spelled.0, ← seats, ← budget) (record { spells = inr (refl, refl); small = spelled.1; short = omega arith })

full_header_only : (w s t : List ℕ) (o m : Option ℕ) (n b : ℕ) → w ≡ codes "seats" → number_of s ≡ o → number_of t ≡ m → header o m ≡ Some (record { seats = n; budget = b }) → IsHeader (w ++ 32 ∷ (s ++ 32 ∷ t)) n b
full_header_only w s t None m n b word number budget e = absurd (cc)
full_header_only w s t (Some k) None n b word number budget e = absurd (cc)
full_header_only w s t (Some k) (Some j) n b word number budget e =
    let same : ◌≡◌ {A = Limits} (record { seats = k; budget = j }) (record { seats = n; budget = b }) = cc in
    let seats : k ≡ n = ap (λ p. p.seats) same in
    let largest : j ≡ b = ap (λ p. p.budget) same in
    let first : (s ≡ decimal k) × (k < 10 ^ 18) = only s k number in
    let second : (t ≡ decimal j) × (j < 10 ^ 18) = only t j budget in
    rw (word, first.0, second.0, ← seats, ← largest) (record { spells = inl refl; small = first.1; short = second.1 })

header_words_only : (words : List (List ℕ)) (n b : ℕ) → header_of words ≡ Some (record { seats = n; budget = b }) → IsHeader (join_with_byte 32 words) n b
header_words_only [] n b e = absurd (cc)
header_words_only (a ∷ []) n b e = absurd (cc)
header_words_only (w ∷ s ∷ []) n b e = by_test (bytes_eq w (codes "seats")) refl e
  where
    by_test : (t : Bool) → bytes_eq w (codes "seats") ≡ t → cond t (header (number_of s) (Some max_budget)) None ≡ Some (record { seats = n; budget = b }) → IsHeader (w ++ 32 ∷ s) n b
    by_test true same e = short_header_only w s (number_of s) n b ((bytes_eq-Decides w (codes "seats")).0 same) refl e
    by_test false same e = absurd (cc)
header_words_only (w ∷ s ∷ m ∷ []) n b e = by_test (bytes_eq w (codes "seats")) refl e
  where
    by_test : (t : Bool) → bytes_eq w (codes "seats") ≡ t → cond t (header (number_of s) (number_of m)) None ≡ Some (record { seats = n; budget = b }) → IsHeader (w ++ 32 ∷ (s ++ 32 ∷ m)) n b
    by_test true same e = full_header_only w s m (number_of s) (number_of m) n b ((bytes_eq-Decides w (codes "seats")).0 same) refl refl e
    by_test false same e = absurd (cc)
header_words_only (a ∷ w ∷ c ∷ d ∷ more) n b e = absurd (cc)

-- a text that is read as a first line is a spelling of it
pub header_only : (text : List ℕ) (n b : ℕ) → header_of (words_of text) ≡ Some (record { seats = n; budget = b }) → SpellsHeader text n b × (n < 10 ^ 18) × (b < 10 ^ 18)
header_only text n b e =
    let line : IsHeader text n b = rw (join_with_byte-slice_split 32 text) at (header_words_only (words_of text) n b e) in
    (line.spells, line.small, line.short)
