-- The text of a queue, in which the oldest record is written first.
use Rattle.std.proofs.Common.{◌≡◌, ◌<◌, ◌≤◌, ◌^◌, ℕ, List, [], ◌∷◌, ◌++◌, length, Option, Result, Ok, Err, reverse, codes, decimal, sym, ◌∙◌, ap, append-nil, arith}
use Rattle.std.proofs.lemmas.Fmt.{length-decimal-le}
use Rattle.std.proofs.lemmas.List.{reverse-append}
use Rattle.std.specs.Prelude.{IsErrAnd}
use Rattle.lfm_text.specs.declared.faults.WriteFault.{WriteFault}
use Rattle.lfm_core.specs.text.Trace.{record_text, further_text, queue_text}
use Rattle.lfm_text.specs.Writing.{Writes, joined}
use Rattle.lfm_text.proofs.Writes.{wrote_then, failed_within, written_nothing}
use Rattle.lfm_words.specs.declared.pop_lists.Record.{Record}

-- the last record of the items is the oldest
oldest_first : (items rest : List Record) (x : Record) → items ≡ rest ++ x ∷ [] → reverse items ≡ x ∷ reverse rest
oldest_first items rest x is = ap reverse is ∙ reverse-append rest (x ∷ [])

module _ (old mid : Option (List ℕ)) (items rest : List Record) (x : Record) (is : items ≡ rest ++ x ∷ []) where
  -- the oldest record was written, so if the others are written next, the whole queue is
  pub oldest_written : Writes {T = Unit {0}} old mid (record_text x) (Ok tt) → (new : Option (List ℕ)) (r : Result (Unit {0}) WriteFault)
      → Writes mid new (further_text (reverse rest)) r → Writes old new (queue_text (reverse items)) r
  oldest_written p new r q = rw (oldest_first items rest x is) (wrote_then old mid new (record_text x) (further_text (reverse rest)) tt r p q)

  pub oldest_failed : (fault : WriteFault) (r : Result (Unit {0}) WriteFault) → Writes {T = Unit {0}} old mid (record_text x) (Err fault) → IsErrAnd r (λ y. y ≡ fault)
      → Writes old mid (queue_text (reverse items)) r
  oldest_failed fault r p e = rw (oldest_first items rest x is) (failed_within old mid (record_text x) (further_text (reverse rest)) fault r p e)

  -- the same for one of the others, which is written after a comma
  pub further_written : Writes {T = Unit {0}} old mid (joined (codes "," ∷ record_text x ∷ [])) (Ok tt) → (new : Option (List ℕ)) (r : Result (Unit {0}) WriteFault)
      → Writes mid new (further_text (reverse rest)) r → Writes old new (further_text (reverse items)) r
  further_written p new r q = rw (oldest_first items rest x is) (wrote_then old mid new _ (further_text (reverse rest)) tt r p q)

  pub further_failed : (fault : WriteFault) (r : Result (Unit {0}) WriteFault) → Writes {T = Unit {0}} old mid (joined (codes "," ∷ record_text x ∷ [])) (Err fault)
      → IsErrAnd r (λ y. y ≡ fault) → Writes old mid (further_text (reverse items)) r
  further_failed fault r p e = rw (oldest_first items rest x is) (failed_within old mid _ (further_text (reverse rest)) fault r p e)

-- if there is no record, nothing is left to write
pub none_left : (a : Option (List ℕ)) (items : List Record) → length items ≡ 0 → Writes {T = Unit {0}} a a (further_text (reverse items)) (Ok tt)
none_left a [] e = written_nothing a tt
none_left a (x ∷ items) e = absurd (omega (arith, e))

-- a number has at most 20 digits
pub length-decimal : (n : ℕ) → n < 2 ^ 64 → length (decimal n) ≤ 20
length-decimal n fits = length-decimal-le 20 n (omega arith) (omega (arith, fits)) fits

-- a record's text, written from its end
pub record_put : (r : Record) (end separator start : List ℕ) → end ≡ decimal r.stamp ++ [] → separator ≡ 35 ∷ end → start ≡ decimal r.seat ++ separator
    → start ≡ record_text r
unfolding joined
record_put r end separator start e s t = t ∙ ap (λ l. decimal r.seat ++ l) (s ∙ ap (λ l. 35 ∷ l) e)

-- the text of a record after a comma
pub further_put : (r : Record) (later start : List ℕ) → later ≡ record_text r → start ≡ 44 ∷ later → start ≡ joined (codes "," ∷ record_text r ∷ [])
unfolding joined
further_put r later start e s = s ∙ ap (λ l. 44 ∷ l) (e ∙ sym (append-nil (record_text r)))
