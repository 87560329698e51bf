-- What was printed of a graph, text by text.
use Rattle.std.proofs.Common.{◌≡◌, ◌+◌, ◌||◌, ℕ, Bool, true, false, true≢false, List, [], ◌∷◌, ◌++◌, map, nat_eq, Option, Result, Ok, if◌then◌else◌, refl, sym, ◌∙◌, ap, subst, add-one, append_assoc, append-nil}
use Rattle.std.proofs.lemmas.List.{map-append}
use Rattle.std.specs.Cmp.Lexicographic.{pointwise}
use Rattle.std.specs.Io.KnownBytes.{Appends}
use Rattle.std.specs.List.{list_any}
use Rattle.indexmap.specs.IndexSet.{insert_key}
use Rattle.lfm_core.specs.text.Trace.{state_text}
use Rattle.lfm_protocol.specs.Core.{Core}
use Rattle.lfm_shown.specs.Graphs.{text_line, text_lines, texts_of_seats}
use Rattle.lfm_shown.specs.Printed.{Prints, new_text, new_texts}
use Rattle.lfm_shown.specs.Texts.{link_text, seat_text}
use Rattle.lfm_text.specs.declared.faults.WriteFault.{WriteFault}
use Rattle.lfm_text.specs.Writing.{Writes}
use Rattle.lfm_text.proofs.Writes.{Appends-then, written_nothing}

-- ---- the set of texts

-- the same test of the keys of a set and of their bytes
pub any_viewed : {V : Type 0} (view : V → List ℕ) (ks : List V) (t : List ℕ)
    → list_any (λ k. pointwise nat_eq t (view k)) ks ≡ list_any (pointwise nat_eq t) (map view ks)
any_viewed view [] t = refl
any_viewed view (k ∷ ks) t = ap (λ b. pointwise nat_eq t (view k) || b) (any_viewed view ks t)

pushed : {V : Type 0} (view : V → List ℕ) (ks : List V) (v : V) (b c : Bool) → b ≡ c
    → map view (if b then ks else ks ++ v ∷ []) ≡ map view ks ++ (if c then [] else view v ∷ [])
pushed view ks v true true e = sym (append-nil (map view ks))
pushed view ks v false false e = map-append view ks (v ∷ [])
pushed view ks v true false e = absurd (true≢false e)
pushed view ks v false true e = absurd (true≢false (sym e))

-- an inserted key adds its text, if that is new
pub keys_grown : {V : Type 0} (view : V → List ℕ) (ks : List V) (v : V)
    → map view (insert_key (λ a b. pointwise nat_eq (view a) (view b)) ks v) ≡ map view ks ++ new_text (map view ks) (view v)
keys_grown view ks v = pushed view ks v _ _ (any_viewed view ks (view v))

-- ---- the texts that are new

pub new_then : (before xs : List (List ℕ)) (t : List ℕ) → new_texts before (xs ++ t ∷ []) ≡ new_texts before xs ++ new_texts (before ++ new_texts before xs) (t ∷ [])
new_then before [] t = ap (λ l. new_texts l (t ∷ [])) (sym (append-nil before))
new_then before (x ∷ xs) t =
    let n = new_text before x in
    ap (λ l. n ++ l) (new_then (before ++ n) xs t)
    ∙ ap (λ l. n ++ (new_texts (before ++ n) xs ++ new_texts l (t ∷ []))) (append_assoc before n (new_texts (before ++ n) xs))
    ∙ sym (append_assoc n (new_texts (before ++ n) xs) (new_texts (before ++ (n ++ new_texts (before ++ n) xs)) (t ∷ [])))

pub lines_then : (xs ys : List (List ℕ)) → text_lines (xs ++ ys) ≡ text_lines xs ++ text_lines ys
lines_then [] ys = refl
lines_then (x ∷ xs) ys = ap (λ l. text_line x ++ l) (lines_then xs ys) ∙ sym (append_assoc (text_line x) (text_lines xs) (text_lines ys))

-- ---- what was printed

-- nothing
pub prints_nothing : (a : Option (List ℕ)) (before : List (List ℕ)) → Prints a a before before [] []
prints_nothing a before = record {
  all = sym (append-nil before);
  appended = (written_nothing {T = Unit {0}} a tt).outcome;
}

-- one text
pub prints_text : (a b : Option (List ℕ)) (before after : List (List ℕ)) (t : List ℕ)
    → Writes {T = Unit {0}} a b (text_lines (new_text before t)) (Ok tt) → after ≡ before ++ new_text before t → Prints a b before after (t ∷ []) []
prints_text a b before after t written grown = record {
  all = grown ∙ ap (λ l. before ++ l) (sym (append-nil (new_text before t)));
  appended = subst (λ l. Appends a b l) (ap text_lines (sym (append-nil (new_text before t))) ∙ sym (append-nil (text_lines (new_text before t ++ [])))) written.outcome;
}

-- some texts, and one more
pub prints_then : (a b c : Option (List ℕ)) (before mid after : List (List ℕ)) (xs : List (List ℕ)) (t : List ℕ)
    → Prints a b before mid xs [] → Prints b c mid after (t ∷ []) [] → Prints a c before after (xs ++ t ∷ []) []
prints_then a b c before mid after xs t p q =
    let n = new_texts before xs in
    let one : new_texts mid (t ∷ []) ≡ new_texts (before ++ n) (t ∷ []) = ap (λ l. new_texts l (t ∷ [])) p.all in
    let sum : n ++ new_texts mid (t ∷ []) ≡ new_texts before (xs ++ t ∷ []) = ap (λ l. n ++ l) one ∙ sym (new_then before xs t) in
    let first : Appends a b (text_lines n) = subst (λ l. Appends a b l) (append-nil (text_lines n)) p.appended in
    record {
      all = q.all ∙ ap (λ l. l ++ new_texts mid (t ∷ [])) p.all ∙ append_assoc before n (new_texts mid (t ∷ [])) ∙ ap (λ l. before ++ l) sum;
      appended = subst (λ l. Appends a c l)
          (sym (append_assoc (text_lines n) (text_lines (new_texts mid (t ∷ []))) []) ∙ ap (λ l. l ++ []) (sym (lines_then n (new_texts mid (t ∷ []))) ∙ ap text_lines sum))
          (Appends-then a b c _ _ first q.appended);
    }

-- the new texts, and a line
pub prints_line : (a b c : Option (List ℕ)) (before after : List (List ℕ)) (xs : List (List ℕ)) (line : List ℕ)
    → Prints a b before after xs [] → Appends b c line → Prints a c before after xs line
prints_line a b c before after xs line p written =
    let n = new_texts before xs in
    record {
      all = p.all;
      appended = Appends-then a b c (text_lines n) line (subst (λ l. Appends a b l) (append-nil (text_lines n)) p.appended) written;
    }

-- the first two texts of a state
pub prints_two : (a b : Option (List ℕ)) (before after : List (List ℕ)) (s t v w : List ℕ) → s ≡ v → t ≡ w → Prints a b before after (s ∷ t ∷ []) [] → Prints a b before after (v ∷ w ∷ []) []
prints_two a b before after s t v w first second printed =
    subst (λ x. Prints a b before after (x ∷ w ∷ []) []) first (subst (λ y. Prints a b before after (s ∷ y ∷ []) []) second printed)

-- one more seat has its text
pub prints_seat : (a b : Option (List ℕ)) (before after : List (List ℕ)) (c : Core) (s : ℕ) (t : List ℕ) → t ≡ seat_text c (s + 1)
    → Prints a b before after (state_text c ∷ link_text c.push ∷ (texts_of_seats c s ++ t ∷ [])) []
    → Prints a b before after (state_text c ∷ link_text c.push ∷ texts_of_seats c (s + 1)) []
prints_seat a b before after c s t is printed = rw (add-one s)
    (subst (λ x. Prints a b before after (state_text c ∷ link_text c.push ∷ (texts_of_seats c s ++ x ∷ [])) []) (rw (add-one s) at is) printed)

-- nothing is written of a text that was printed before
pub known_written : {V : Type 0} (a b : Option (List ℕ)) (view : V → List ℕ) (ks : List V) (t : List ℕ) (r : Result (Unit {0}) WriteFault)
    → list_any (λ k. pointwise nat_eq t (view k)) ks ≡ true → Writes a b [] r → Writes a b (text_lines (new_text (map view ks) t)) r
known_written a b view ks t r known p =
    subst (λ (x : Bool). Writes a b (text_lines (if x then [] else t ∷ [])) r) (sym known ∙ any_viewed view ks t) p

-- the line of a text that is new
pub new_written : {V : Type 0} (a b : Option (List ℕ)) (view : V → List ℕ) (ks : List V) (t : List ℕ) (r : Result (Unit {0}) WriteFault)
    → list_any (λ k. pointwise nat_eq t (view k)) ks ≡ false → Writes a b (text_line t) r → Writes a b (text_lines (new_text (map view ks) t)) r
new_written a b view ks t r fresh p =
    subst (λ (x : Bool). Writes a b (text_lines (if x then [] else t ∷ [])) r) (sym fresh ∙ any_viewed view ks t)
    (subst (λ l. Writes a b l r) (sym (append-nil (text_line t))) p)
