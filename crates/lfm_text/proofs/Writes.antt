-- The writes of one text after another join to the write of all of them.
use Rattle.std.proofs.Common.{◌≡◌, ◌≤◌, ◌+◌, ◌-◌, ℕ, List, [], ◌∷◌, ◌++◌, length, take, drop, Option, Some, None, Result, Ok, Err, refl, sym, ◌∙◌, ap, subst, append_assoc, append-nil, length-drop, arith, take_all, take-add, take-append-drop}
use Rattle.std.specs.Prelude.{IsErrAnd}
use Rattle.std.specs.Io.KnownBytes.{Appends, Keeps}
use Rattle.lfm_text.specs.declared.faults.WriteFault.{WriteFault}
use Rattle.lfm_text.specs.Writing.{WriteOutcome, Writes, joined}

-- a text was appended, and then another
pub Appends-then : (a b c : Option (List ℕ)) (s t : List ℕ) → Appends a b s → Appends b c t → Appends a c (s ++ t)
Appends-then None b c s t p q = tt
Appends-then (Some x) None c s t p q = absurd p
Appends-then (Some x) (Some y) None s t p q = absurd q
Appends-then (Some x) (Some y) (Some z) s t p q = q ∙ ap (λ l. l ++ t) p ∙ append_assoc x s t

pub Appends-kept : (a b c : Option (List ℕ)) (s : List ℕ) → Appends a b s → Keeps b c → Appends a c s
Appends-kept None b c s p q = tt
Appends-kept (Some x) None c s p q = absurd p
Appends-kept (Some x) (Some y) None s p q = absurd q
Appends-kept (Some x) (Some y) (Some z) s p q = q ∙ p

pub Appends-nothing : (a b : Option (List ℕ)) → Keeps a b → Appends a b []
Appends-nothing None b p = tt
Appends-nothing (Some x) None p = absurd p
Appends-nothing (Some x) (Some y) p = p ∙ sym (append-nil x)

-- to append nothing is to keep
pub Keeps-from_none : (a b : Option (List ℕ)) (n : ℕ) (t : List ℕ) → n ≡ 0 → Appends a b (take n t) → Keeps a b
Keeps-from_none None b n t e p = tt
Keeps-from_none (Some x) None n t e p = absurd p
Keeps-from_none (Some x) (Some y) n t e p = (rw e at p) ∙ append-nil x

-- nothing was written, and nothing was to be written
pub written_nothing : {T : Type 0} (a : Option (List ℕ)) (answer : T) → Writes a a [] (Ok answer)
written_nothing None answer = record { outcome = tt }
written_nothing (Some x) answer = record { outcome = sym (append-nil x) }

-- ---- one text

-- a prefix of a text was written, and then n more bytes
pub appends_on : (old mid new : Option (List ℕ)) (t : List ℕ) (a n : ℕ) → a ≤ length t
    → Appends old mid (take a t) → Appends mid new (take n (take (length t - a) (drop a t))) → Appends old new (take (a + n) t)
appends_on old mid new t a n h first more =
    let all : take (length t - a) (drop a t) ≡ drop a t = take_all (length t - a) (drop a t) (omega (arith, length-drop a t)) in
    let P : List ℕ → Type 0 = λ l. Appends mid new (take n l) in
    let Q : List ℕ → Type 0 = λ l. Appends old new l in
    subst Q (sym (take-add a n t)) (Appends-then old mid new (take a t) (take n (drop a t)) first (subst P all more))

-- the writer failed after a prefix
pub stopped : {T : Type 0} (old mid new : Option (List ℕ)) (t : List ℕ) (a : ℕ) → Appends old mid (take a t) → Keeps mid new
    → (fault : WriteFault) → Writes {T = T} old new t (Err fault)
stopped old mid new t a p q fault = record {
  outcome = record {
    prefix = take a t;
    rest = drop a t;
    whole = sym (take-append-drop a t);
    appended = Appends-kept old mid new (take a t) p q;
  };
}

-- ---- one text after another

WriteOutcome-then : {T : Type 0} (a b c : Option (List ℕ)) (s t : List ℕ) (r : Result T WriteFault)
    → Appends a b s → WriteOutcome b c t r → WriteOutcome a c (s ++ t) r
WriteOutcome-then a b c s t (Ok x) p q = Appends-then a b c s t p q
WriteOutcome-then a b c s t (Err e) p q = record {
  prefix = s ++ q.prefix;
  rest = q.rest;
  whole = ap (λ l. s ++ l) q.whole ∙ sym (append_assoc s q.prefix q.rest);
  appended = Appends-then a b c s q.prefix p q.appended;
}

-- a text was written, and then another, or a prefix of it
pub wrote_then : {T U : Type 0} (a b c : Option (List ℕ)) (s t : List ℕ) (u : U) (r : Result T WriteFault)
    → Writes a b s (Ok u) → Writes b c t r → Writes a c (s ++ t) r
wrote_then a b c s t u r p q = record { outcome = WriteOutcome-then a b c s t r p.outcome q.outcome }

-- the writer failed within a text, so the text after it is missing too; r is the fault that `?` passes on
pub failed_within : {T U : Type 0} (a b : Option (List ℕ)) (s t : List ℕ) (fault : WriteFault) (r : Result T WriteFault)
    → Writes {T = U} a b s (Err fault) → IsErrAnd r (λ y. y ≡ fault) → Writes a b (s ++ t) r
failed_within a b s t fault (Ok x) p e = absurd e
failed_within a b s t fault (Err y) p e = record {
  outcome = record {
    prefix = p.outcome.prefix;
    rest = p.outcome.rest ++ t;
    whole = ap (λ l. l ++ t) p.outcome.whole ∙ append_assoc p.outcome.prefix p.outcome.rest t;
    appended = p.outcome.appended;
  };
}

-- the fault that `?` passes on is a fault of writing the same text
pub failed_on : {T U : Type 0} (a b : Option (List ℕ)) (s : List ℕ) (fault : WriteFault) (r : Result T WriteFault)
    → Writes {T = U} a b s (Err fault) → IsErrAnd r (λ y. y ≡ fault) → Writes a b s r
failed_on a b s fault (Ok x) p e = absurd e
failed_on a b s fault (Err y) p e = record { outcome = p.outcome }

-- a text was written, and then the flush failed
pub failed_after : {T U : Type 0} (a b c : Option (List ℕ)) (s : List ℕ) (u : U) (fault : WriteFault) (r : Result T WriteFault)
    → Writes a b s (Ok u) → Writes {T = Unit {0}} b c [] (Err fault) → IsErrAnd r (λ y. y ≡ fault) → Writes a c s r
failed_after a b c s u fault r p q e =
    let P : List ℕ → Type 0 = λ l. Writes a c l r in
    subst P (append-nil s) (wrote_then a b c s [] u r p (failed_on b c [] fault r q e))

-- ---- the parts of a text

-- r is the result after the part before these parts ended with q: the fault that `?` passes on, or success if no part is left
abbrev pub Ends : Result (Unit {0}) WriteFault → List (List ℕ) → Result (Unit {0}) WriteFault → Type 0
Ends (Ok u) parts r = (parts ≡ []) × (r ≡ Ok u)
Ends (Err fault) parts r = IsErrAnd r (λ y. y ≡ fault)

-- a part was written, and it was the last, or the writer failed within it
pub part_one : (a b : Option (List ℕ)) (s : List ℕ) (parts : List (List ℕ)) (q r : Result (Unit {0}) WriteFault)
    → Writes a b s q → Ends q parts r → Writes a b (joined (s ∷ parts)) r
unfolding joined
part_one a b s parts (Ok u) r p e = rw (e.0, e.1, append-nil) p
part_one a b s parts (Err fault) r p e = failed_within a b s (joined parts) fault r p e

-- a part was written, and then the others
part_then : (a b c : Option (List ℕ)) (s : List ℕ) (parts : List (List ℕ)) (r : Result (Unit {0}) WriteFault)
    → Writes {T = Unit {0}} a b s (Ok tt) → Writes b c (joined parts) r → Writes a c (joined (s ∷ parts)) r
unfolding joined
part_then a b c s parts r p q = wrote_then a b c s (joined parts) tt r p q

-- The same after parts that were written. `grind` takes a lemma once, so there is one lemma for each number of parts.
module _ (parts : List (List ℕ)) (q r : Result (Unit {0}) WriteFault) where
  pub part_two : (a b c : Option (List ℕ)) (s t : List ℕ)
      → Writes {T = Unit {0}} a b s (Ok tt) → Writes b c t q → Ends q parts r
      → Writes a c (joined (s ∷ t ∷ parts)) r
  part_two a b c s t p1 p2 ends = part_then _ _ _ _ _ r p1 (part_one _ _ _ parts q r p2 ends)

  pub part_three : (a b c d : Option (List ℕ)) (s t v : List ℕ)
      → Writes {T = Unit {0}} a b s (Ok tt) → Writes {T = Unit {0}} b c t (Ok tt) → Writes c d v q → Ends q parts r
      → Writes a d (joined (s ∷ t ∷ v ∷ parts)) r
  part_three a b c d s t v p1 p2 p3 ends = part_then _ _ _ _ _ r p1 (part_two _ _ _ _ _ p2 p3 ends)

  pub part_four : (a b c d e : Option (List ℕ)) (s t v w : List ℕ)
      → Writes {T = Unit {0}} a b s (Ok tt) → Writes {T = Unit {0}} b c t (Ok tt) → Writes {T = Unit {0}} c d v (Ok tt) → Writes d e w q → Ends q parts r
      → Writes a e (joined (s ∷ t ∷ v ∷ w ∷ parts)) r
  part_four a b c d e s t v w p1 p2 p3 p4 ends = part_then _ _ _ _ _ r p1 (part_three _ _ _ _ _ _ _ p2 p3 p4 ends)

  pub part_five : (a b c d e f : Option (List ℕ)) (s t v w x : List ℕ)
      → Writes {T = Unit {0}} a b s (Ok tt) → Writes {T = Unit {0}} b c t (Ok tt) → Writes {T = Unit {0}} c d v (Ok tt) → Writes {T = Unit {0}} d e w (Ok tt) → Writes e f x q → Ends q parts r
      → Writes a f (joined (s ∷ t ∷ v ∷ w ∷ x ∷ parts)) r
  part_five a b c d e f s t v w x p1 p2 p3 p4 p5 ends = part_then _ _ _ _ _ r p1 (part_four _ _ _ _ _ _ _ _ _ p2 p3 p4 p5 ends)

-- All parts were written.

pub wrote_two : (a b c : Option (List ℕ)) (s t : List ℕ)
    → Writes {T = Unit {0}} a b s (Ok tt) → Writes {T = Unit {0}} b c t (Ok tt)
    → Writes {T = Unit {0}} a c (joined (s ∷ t ∷ [])) (Ok tt)
wrote_two a b c s t p1 p2 = part_two [] (Ok tt) (Ok tt) _ _ _ _ _ p1 p2 (refl, refl)

pub wrote_three : (a b c d : Option (List ℕ)) (s t v : List ℕ)
    → Writes {T = Unit {0}} a b s (Ok tt) → Writes {T = Unit {0}} b c t (Ok tt) → Writes {T = Unit {0}} c d v (Ok tt)
    → Writes {T = Unit {0}} a d (joined (s ∷ t ∷ v ∷ [])) (Ok tt)
wrote_three a b c d s t v p1 p2 p3 = part_three [] (Ok tt) (Ok tt) _ _ _ _ _ _ _ p1 p2 p3 (refl, refl)

pub wrote_four : (a b c d e : Option (List ℕ)) (s t v w : List ℕ)
    → Writes {T = Unit {0}} a b s (Ok tt) → Writes {T = Unit {0}} b c t (Ok tt) → Writes {T = Unit {0}} c d v (Ok tt) → Writes {T = Unit {0}} d e w (Ok tt)
    → Writes {T = Unit {0}} a e (joined (s ∷ t ∷ v ∷ w ∷ [])) (Ok tt)
wrote_four a b c d e s t v w p1 p2 p3 p4 = part_four [] (Ok tt) (Ok tt) _ _ _ _ _ _ _ _ _ p1 p2 p3 p4 (refl, refl)

pub wrote_five : (a b c d e f : Option (List ℕ)) (s t v w x : List ℕ)
    → Writes {T = Unit {0}} a b s (Ok tt) → Writes {T = Unit {0}} b c t (Ok tt) → Writes {T = Unit {0}} c d v (Ok tt) → Writes {T = Unit {0}} d e w (Ok tt) → Writes {T = Unit {0}} e f x (Ok tt)
    → Writes {T = Unit {0}} a f (joined (s ∷ t ∷ v ∷ w ∷ x ∷ [])) (Ok tt)
wrote_five a b c d e f s t v w x p1 p2 p3 p4 p5 = part_five [] (Ok tt) (Ok tt) _ _ _ _ _ _ _ _ _ _ _ p1 p2 p3 p4 p5 (refl, refl)

-- the lemmas for a function that writes up to five parts with a `?` at each
pub ruleset writings = (wrote_two, wrote_three, wrote_four, wrote_five, part_one, part_two, part_three, part_four, part_five)
