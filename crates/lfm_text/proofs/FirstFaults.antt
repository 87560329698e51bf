-- In each grammar, the fault names the first line of the text that can't be read.
use Rattle.std.proofs.Common.{◌≡◌, ◌≢◌, ◌+◌, ◌<◌, zero, suc, ℕ, Bool, true, false, cond, is_some, length, List, [], ◌∷◌, Option, Some, None, Result, Ok, Err, ◌⊎◌, inl, inr, get_or, refl, sym, ◌∙◌, ap, arith}
use Rattle.lfm_text.specs.Text.{words_of, lines_of, is_past_limit}
use Rattle.lfm_text.specs.Grammar.{Rules, in_front, lines_from, whole_from, whole_of_lines, said_in, is_line_at, IsFirstFault}

none_of : {A : Type 0} (o : Option A) → is_some o ≡ false → o ≡ None
none_of None e = refl
none_of (Some x) e = absurd (cc)

-- The faults of two lines differ. No fault of a line is the fault of the limits, or the fault of all lines together. A text
-- without a byte is not a first line
pub record AreApart {H L P F : Type 0} (rules : Rules H L P F) : Type 0 where
  pub number : (m n : ℕ) → rules.syntax_fault m ≡ rules.syntax_fault n → m ≡ n
  pub limit : (n : ℕ) → rules.limit_fault ≢ rules.syntax_fault n
  pub whole : (h : H) (ls : List L) (n : ℕ) → rules.whole h ls ≢ Err (rules.syntax_fault n)
  pub empty : rules.first (words_of []) ≡ None

module _ {H L P F : Type 0} (rules : Rules H L P F) (apart : AreApart rules) where
  -- the line with this number, which is n + index, is the first that can't be read
  record FirstNoLine (texts : List (List ℕ)) (n number : ℕ) : Type 0 where
    index : ℕ
    counted : number ≡ n + index
    there : index < length texts
    fails : is_some (rules.line (words_of (get_or texts index []))) ≡ false
    before : (k : ℕ) → k < index → is_some (rules.line (words_of (get_or texts k []))) ≡ true

  -- ---- a fault names the first line that can't be read

  -- a line that can be read, before the first that can't
  later_no_line : (t : List ℕ) (ts : List (List ℕ)) (n number : ℕ) → is_some (rules.line (words_of t)) ≡ true → FirstNoLine ts (n + 1) number → FirstNoLine (t ∷ ts) n number
  later_no_line t ts n number says later =
      record { index = suc later.index; counted = omega (arith, later.counted); there = omega (arith, later.there); fails = later.fails; before = earlier }
    where
      earlier : (k : ℕ) → k < suc later.index → is_some (rules.line (words_of (get_or (t ∷ ts) k []))) ≡ true
      earlier zero below = says
      earlier (suc k) below = later.before k (omega (arith, below))

  first_no_line : (texts : List (List ℕ)) (n number : ℕ) → lines_from rules n texts ≡ Err (rules.syntax_fault number) → FirstNoLine texts n number
  first_no_line [] n number e = absurd (cc)
  first_no_line (t ∷ ts) n number e = by_line (rules.line (words_of t)) (lines_from rules (n + 1) ts) refl (first_no_line ts (n + 1) number) refl e
    where
      by_line : (o : Option L) (r : Result (List L) F) → rules.line (words_of t) ≡ o
          → (lines_from rules (n + 1) ts ≡ Err (rules.syntax_fault number) → FirstNoLine ts (n + 1) number) → lines_from rules (n + 1) ts ≡ r
          → in_front (rules.syntax_fault n) o r ≡ Err (rules.syntax_fault number) → FirstNoLine (t ∷ ts) n number
      by_line None r says later others e =
          let fault : rules.syntax_fault n ≡ rules.syntax_fault number = cc in
          let same : n ≡ number = apart.number n number fault in
          record { index = 0; counted = omega (arith, same); there = omega arith; fails = ap is_some says; before = λ k below. absurd (omega (arith, below)) }
      by_line (Some l) (Ok ls) says later others e = absurd (cc)
      by_line (Some l) (Err fault) says later others e =
          let same : fault ≡ rules.syntax_fault number = cc in
          later_no_line t ts n number (ap is_some says) (later (others ∙ ap Err same))

  first_fault_from : (texts : List (List ℕ)) (number : ℕ) → whole_of_lines rules texts ≡ Err (rules.syntax_fault number) → IsFirstFault rules texts number
  first_fault_from [] number e =
      let fault : rules.syntax_fault 1 ≡ rules.syntax_fault number = cc in
      let same : 1 ≡ number = apart.number 1 number fault in
      record { index = 0; counted = omega (arith, same); there = inr (refl, refl); fails = ap is_some apart.empty; before = λ k below. absurd (omega (arith, below)) }
  first_fault_from (first ∷ others) number e = by_parts (rules.first (words_of first)) (lines_from rules 2 others) refl refl e
    where
      earlier : (h : H) → rules.first (words_of first) ≡ Some h → (later : FirstNoLine others 2 number) (k : ℕ) → k < suc later.index → is_line_at rules k (get_or (first ∷ others) k []) ≡ true
      earlier h says later zero below = ap is_some says
      earlier h says later (suc k) below = later.before k (omega (arith, below))

      by_parts : (h : Option H) (r : Result (List L) F) → rules.first (words_of first) ≡ h → lines_from rules 2 others ≡ r
          → whole_from rules h r ≡ Err (rules.syntax_fault number) → IsFirstFault rules (first ∷ others) number
      by_parts None r says lines e =
          let fault : rules.syntax_fault 1 ≡ rules.syntax_fault number = cc in
          let same : 1 ≡ number = apart.number 1 number fault in
          record { index = 0; counted = omega (arith, same); there = inl (omega arith); fails = ap is_some says; before = λ k below. absurd (omega (arith, below)) }
      by_parts (Some h) (Ok ls) says lines e = absurd (apart.whole h ls number e)
      by_parts (Some h) (Err fault) says lines e =
          let same : fault ≡ rules.syntax_fault number = cc in
          let later : FirstNoLine others 2 number = first_no_line others 2 number (lines ∙ ap Err same) in
          record { index = suc later.index; counted = omega (arith, later.counted); there = inl (omega (arith, later.there)); fails = later.fails; before = earlier h says later }

  -- a fault of a line is that of the first line that can't be read, in a text that is not too long
  pub first_fault_only : (text : List ℕ) (number : ℕ) → said_in rules text ≡ Err (rules.syntax_fault number) → (is_past_limit text ≡ false) × IsFirstFault rules (lines_of text) number
  first_fault_only text number e = by_limit (is_past_limit text) refl e
    where
      by_limit : (t : Bool) → is_past_limit text ≡ t → cond t (Err rules.limit_fault) (whole_of_lines rules (lines_of text)) ≡ Err (rules.syntax_fault number)
          → (is_past_limit text ≡ false) × IsFirstFault rules (lines_of text) number
      by_limit true past e = let same : rules.limit_fault ≡ rules.syntax_fault number = cc in absurd (apart.limit number same)
      by_limit false short e = (short, first_fault_from (lines_of text) number e)

-- ---- the first line that can't be read is named

module _ {H L P F : Type 0} (rules : Rules H L P F) where
  no_line_from : (texts : List (List ℕ)) (k n : ℕ) → k < length texts → is_some (rules.line (words_of (get_or texts k []))) ≡ false
      → ((i : ℕ) → i < k → is_some (rules.line (words_of (get_or texts i []))) ≡ true) → lines_from rules n texts ≡ Err (rules.syntax_fault (n + k))
  no_line_from [] k n there fails before = absurd (omega (arith, there))
  no_line_from (t ∷ ts) zero n there fails before =
      let here : n ≡ n + zero = omega arith in
      rw (none_of (rules.line (words_of t)) fails) (ap (λ m. Err (rules.syntax_fault m)) here)
  no_line_from (t ∷ ts) (suc k) n there fails before =
      by_line (rules.line (words_of t)) (before zero (omega arith)) (no_line_from ts k (n + 1) (omega (arith, there)) fails (λ i below. before (suc i) (omega (arith, below))))
    where
      by_line : (o : Option L) → is_some o ≡ true → lines_from rules (n + 1) ts ≡ Err (rules.syntax_fault (n + 1 + k))
          → in_front (rules.syntax_fault n) o (lines_from rules (n + 1) ts) ≡ Err (rules.syntax_fault (n + suc k))
      by_line None says later = absurd (cc)
      by_line (Some l) says later =
          let count : n + 1 + k ≡ n + suc k = omega arith in
          rw (later, count) refl

  fault_of_lines : (texts : List (List ℕ)) (index : ℕ) → (index < length texts) ⊎ ((texts ≡ []) × (index ≡ 0)) → is_line_at rules index (get_or texts index []) ≡ false
      → ((k : ℕ) → k < index → is_line_at rules k (get_or texts k []) ≡ true) → whole_of_lines rules texts ≡ Err (rules.syntax_fault (index + 1))
  fault_of_lines [] index there fails before =
      elim there [ inl within ↦ absurd (omega (arith, within)) | inr none ↦ ap (λ m. Err (rules.syntax_fault (m + 1))) (sym none.1) ]
  fault_of_lines (first ∷ others) zero there fails before = rw (none_of (rules.first (words_of first)) fails) refl
  fault_of_lines (first ∷ others) (suc k) there fails before =
      by_header (rules.first (words_of first)) (before zero (omega arith)) (no_line_from others k 2 (within there) fails (λ i below. before (suc i) (omega (arith, below))))
    where
      within : (suc k < length (first ∷ others)) ⊎ (((first ∷ others) ≡ []) × (suc k ≡ 0)) → k < length others
      within there = elim there [ inl inside ↦ omega (arith, inside) | inr none ↦ absurd (omega (arith, none.1)) ]

      by_header : (h : Option H) → is_some h ≡ true → lines_from rules 2 others ≡ Err (rules.syntax_fault (2 + k)) → whole_from rules h (lines_from rules 2 others) ≡ Err (rules.syntax_fault (suc k + 1))
      by_header None says later = absurd (cc)
      by_header (Some h) says later =
          let count : 2 + k ≡ suc k + 1 = omega arith in
          rw (later, count) refl

  -- the first line that can't be read is the fault of a text that is not too long
  pub first_fault_all : (text : List ℕ) (number : ℕ) → is_past_limit text ≡ false → IsFirstFault rules (lines_of text) number → said_in rules text ≡ Err (rules.syntax_fault number)
  first_fault_all text number short fault =
      rw short (fault_of_lines (lines_of text) fault.index fault.there fault.fails fault.before ∙ ap (λ m. Err (rules.syntax_fault m)) (sym fault.counted))

  -- a text that is too long has only the fault of the limits
  pub past_all : (text : List ℕ) → is_past_limit text ≡ true → said_in rules text ≡ Err rules.limit_fault
  past_all text past = rw past refl
