-- In each grammar, a text is read as exactly what its lines spell, if this is so for single lines.
use Rattle.std.proofs.Common.{◌≡◌, ◌≢◌, ◌+◌, ◌<◌, suc, ℕ, Bool, true, false, cond, List, [], ◌∷◌, ◌++◌, Option, Some, None, Result, Ok, Err, All, ◌⊎◌, inl, inr, refl, sym, ◌∙◌, ap, append_assoc, arith, codes}
use Rattle.std.specs.List.{flat_map}
use Rattle.std.specs.Str.{bytes_eq}
use Rattle.std.proofs.lemmas.Slice.Eq.{bytes_eq-Decides}
use Rattle.lfm_text.specs.Text.{words_of, lines_of, is_past_limit}
use Rattle.lfm_text.specs.Grammar.{Rules, in_front, lines_from, whole_from, whole_of_lines, said_in, EachSpells, SpellsLines, lines_spelling}
use Rattle.lfm_text.proofs.FirstFaults.{AreApart, past_all}
use Rattle.lfm_text.proofs.Separators.{Lacks, one_line}

-- A word is compared with a literal, and then with others. What it is read as, it spells
pub choose : {A : Type 0} (Spells : List ℕ → A → Type 0) (word text : List ℕ) (b a : A) (rest : Option A) → Spells text b → (rest ≡ Some a → Spells word a)
    → cond (bytes_eq word text) (Some b) rest ≡ Some a → Spells word a
choose {A} Spells word text b a rest form others e = by_test (bytes_eq word text) refl e
  where
    by_test : (t : Bool) → bytes_eq word text ≡ t → cond t (Some b) rest ≡ Some a → Spells word a
    by_test true same e =
        let is_text : word ≡ text = (bytes_eq-Decides word text).0 same in
        let is_b : b ≡ a = cc in
        rw (is_text, ← is_b) form
    by_test false same e = others e

-- a single line is read as a line if and only if it spells it
pub record AreSpelled {H L P F : Type 0} (rules : Rules H L P F) (SpellsFirst : List ℕ → H → Type 0) (Spells : List ℕ → L → Type 0) : Type 0 where
  pub first_only : (text : List ℕ) (h : H) → rules.first (words_of text) ≡ Some h → SpellsFirst text h
  pub first_all : (text : List ℕ) (h : H) → SpellsFirst text h → rules.first (words_of text) ≡ Some h
  pub line_only : (text : List ℕ) (l : L) → rules.line (words_of text) ≡ Some l → Spells text l
  pub line_all : (text : List ℕ) (l : L) → Spells text l → rules.line (words_of text) ≡ Some l

module _ {H L P F : Type 0} (rules : Rules H L P F) (SpellsFirst : List ℕ → H → Type 0) (Spells : List ℕ → L → Type 0) (spelled : AreSpelled rules SpellsFirst Spells) where
  -- Lines that were read are spelled by their texts. By induction on the texts
  lines_only : (texts : List (List ℕ)) (number : ℕ) (ls : List L) → lines_from rules number texts ≡ Ok ls → EachSpells Spells texts ls
  lines_only [] number [] e = tt
  lines_only [] number (l ∷ ls) e = absurd (cc)
  lines_only (t ∷ ts) number ls e = by_line (rules.line (words_of t)) (lines_from rules (number + 1) ts) ls refl (lines_only ts (number + 1)) refl e
    where
      by_line : (o : Option L) (r : Result (List L) F) (ls : List L) → rules.line (words_of t) ≡ o
          → ((ms : List L) → lines_from rules (number + 1) ts ≡ Ok ms → EachSpells Spells ts ms) → lines_from rules (number + 1) ts ≡ r
          → in_front (rules.syntax_fault number) o r ≡ Ok ls → EachSpells Spells (t ∷ ts) ls
      by_line None r ls says each others e = absurd (cc)
      by_line (Some l) (Err fault) ls says each others e = absurd (cc)
      by_line (Some l) (Ok more) [] says each others e = absurd (cc)
      by_line (Some l) (Ok more) (m ∷ ms) says each others e =
          let same : l ≡ m = cc in
          let rest : more ≡ ms = cc in
          (spelled.line_only t m (says ∙ ap Some same), each ms (others ∙ ap Ok rest))

  -- The converse. By induction on the texts
  lines_all : (texts : List (List ℕ)) (number : ℕ) (ls : List L) → EachSpells Spells texts ls → lines_from rules number texts ≡ Ok ls
  lines_all [] number [] each = refl
  lines_all [] number (l ∷ ls) each = absurd each
  lines_all (t ∷ ts) number [] each = absurd each
  lines_all (t ∷ ts) number (l ∷ ls) each = rw (spelled.line_all t l each.0, lines_all ts (number + 1) ls each.1) refl

  -- what is known of a text that was read without a fault of a line
  pub record Says (text : List ℕ) (r : Result P F) : Type 0 where
    pub head : H
    pub lines : List L
    pub spells : SpellsLines SpellsFirst Spells text head lines
    pub answers : r ≡ rules.whole head lines

  -- a text whose lines spell these lines is read as them
  pub said_all : (text : List ℕ) (h : H) (ls : List L) → SpellsLines SpellsFirst Spells text h ls → said_in rules text ≡ rules.whole h ls
  said_all text h ls spells =
      let short = spells.short in
      let lines = spells.lines in
      rw (short, lines) (both (rules.first (words_of spells.first)) (lines_from rules 2 spells.others) (spelled.first_all spells.first h spells.header) (lines_all spells.others 2 ls spells.each))
    where
      both : (o : Option H) (r : Result (List L) F) → o ≡ Some h → r ≡ Ok ls → whole_from rules o r ≡ rules.whole h ls
      both o r head rest = rw (head, rest) refl

  said_of_lines : (text : List ℕ) (texts : List (List ℕ)) (r : Result P F) → is_past_limit text ≡ false → lines_of text ≡ texts → whole_of_lines rules texts ≡ r
      → ((number : ℕ) → r ≢ Err (rules.syntax_fault number)) → Says text r
  said_of_lines text [] r short lines e none = absurd (none 1 (sym e))
  said_of_lines text (first ∷ others) r short lines e none = by_parts (rules.first (words_of first)) (lines_from rules 2 others) refl refl e
    where
      by_fault : (f : F) (number : ℕ) (texts : List (List ℕ)) → lines_from rules number texts ≡ Err f → (n : ℕ) × (f ≡ rules.syntax_fault n)
      by_fault f number [] e = absurd (cc)
      by_fault f number (t ∷ ts) e = by_line (rules.line (words_of t)) (lines_from rules (number + 1) ts) (by_fault f (number + 1) ts) refl e
        where
          by_line : (o : Option L) (s : Result (List L) F) → (lines_from rules (number + 1) ts ≡ Err f → (n : ℕ) × (f ≡ rules.syntax_fault n)) → lines_from rules (number + 1) ts ≡ s
              → in_front (rules.syntax_fault number) o s ≡ Err f → (n : ℕ) × (f ≡ rules.syntax_fault n)
          by_line None s later is e = (number, cc)
          by_line (Some l) (Ok ls) later is e = absurd (cc)
          by_line (Some l) (Err g) later is e = let same : g ≡ f = cc in later (is ∙ ap Err same)

      by_parts : (o : Option H) (s : Result (List L) F) → rules.first (words_of first) ≡ o → lines_from rules 2 others ≡ s → whole_from rules o s ≡ r → Says text r
      by_parts None s head rest e = absurd (none 1 (sym e))
      by_parts (Some h) (Err f) head rest e =
          let fault : (n : ℕ) × (f ≡ rules.syntax_fault n) = by_fault f 2 others rest in
          absurd (none fault.0 (sym e ∙ ap Err fault.1))
      by_parts (Some h) (Ok ls) head rest e = record {
        head = h;
        lines = ls;
        spells = record {
          short = short;
          first = first;
          others = others;
          lines = lines;
          header = spelled.first_only first h head;
          each = lines_only others 2 ls rest;
        };
        answers = sym e;
      }

  -- a text that has no fault is read as what its lines spell
  pub said_only : (text : List ℕ) (p : P) → said_in rules text ≡ Ok p → Says text (Ok p)
  said_only text p e = by_limit (is_past_limit text) refl e
    where
      by_limit : (t : Bool) → is_past_limit text ≡ t → cond t (Err rules.limit_fault) (whole_of_lines rules (lines_of text)) ≡ Ok p → Says text (Ok p)
      by_limit true past e = absurd (cc)
      by_limit false past e = said_of_lines text (lines_of text) (Ok p) past refl e (λ n f. absurd (cc))

  -- a text with the fault of the limits is too long, or its lines together give that fault
  pub limit_only : AreApart rules → (text : List ℕ) → said_in rules text ≡ Err rules.limit_fault → (is_past_limit text ≡ true) ⊎ Says text (Err rules.limit_fault)
  limit_only apart text e = by_limit (is_past_limit text) refl e
    where
      by_limit : (t : Bool) → is_past_limit text ≡ t → cond t (Err rules.limit_fault) (whole_of_lines rules (lines_of text)) ≡ Err rules.limit_fault
          → (is_past_limit text ≡ true) ⊎ Says text (Err rules.limit_fault)
      by_limit true past e = inl past
      by_limit false past e =
          inr (said_of_lines text (lines_of text) (Err rules.limit_fault) past refl e (λ n f. let same : rules.limit_fault ≡ rules.syntax_fault n = cc in apart.limit n same))

-- ---- texts that are written

module _ {L : Type 0} (spelling : L → List ℕ) (Spells : List ℕ → L → Type 0) (Fits : L → Type 0) (lacks : (l : L) → Fits l → Lacks 10 (spelling l)) (is : (l : L) → Fits l → Spells (spelling l) l) where
  abbrev text_of : List L → List ℕ
  text_of ls = flat_map (λ l. spelling l ++ codes "\n") ls

  text_of-cons : (l : L) (ls : List L) → text_of (l ∷ ls) ≡ spelling l ++ 10 ∷ text_of ls
  text_of-cons l ls = append_assoc (spelling l) (codes "\n") (text_of ls)

  each_written : (ls : List L) → All Fits ls → EachSpells Spells (lines_of (text_of ls)) ls
  each_written [] fits = tt
  each_written (l ∷ ls) fits =
      let first : Fits l = fits 0 l (omega arith) in
      let others : All Fits ls = λ k d within. fits (suc k) d (omega (arith, within)) in
      let cut : lines_of (text_of (l ∷ ls)) ≡ spelling l ∷ lines_of (text_of ls) = ap lines_of (text_of-cons l ls) ∙ one_line (spelling l) (text_of ls) (lacks l first) in
      rw cut (is l first, each_written ls others)

  -- the lines of the written text are the lines that were written
  pub written : {H : Type 0} (SpellsFirst : List ℕ → H → Type 0) (first : List ℕ) (h : H) (ls : List L) → Lacks 10 first → SpellsFirst first h → All Fits ls
      → is_past_limit (lines_spelling spelling first ls) ≡ false → SpellsLines SpellsFirst Spells (lines_spelling spelling first ls) h ls
  written SpellsFirst first h ls clean head fits short = record {
    short = short;
    first = first;
    others = lines_of (text_of ls);
    lines = one_line first (text_of ls) clean;
    header = head;
    each = each_written ls fits;
  }
