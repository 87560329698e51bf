-- The line of a state, number by number.
use Rattle.std.proofs.Common.{◌≡◌, ◌+◌, ◌<◌, ◌≤◌, ℕ, suc, List, length, get_or, drop, drop-cons, add-one, Option, Result, Ok, Err, codes}
use Rattle.std.proofs.lemmas.List.{drop_all}
use Rattle.std.specs.Prelude.{IsErrAnd}
use Rattle.lfm_shown.specs.Graphs.{further_numbers, state_line}
use Rattle.lfm_shown.specs.Texts.{numbered}
use Rattle.lfm_text.specs.declared.faults.WriteFault.{WriteFault}
use Rattle.lfm_text.specs.Writing.{Writes}
use Rattle.lfm_text.proofs.Writes.{wrote_then, failed_within}

-- the sign before the numbers was written
pub line_begun : (old mid : Option (List ℕ)) (ns : List ℕ) → Writes {T = Unit {0}} old mid (codes "=") (Ok tt) → (new : Option (List ℕ)) (r : Result (Unit {0}) WriteFault)
    → Writes mid new (further_numbers ns) r → Writes old new (state_line ns) r
line_begun old mid ns p new r q = wrote_then old mid new (codes "=") (further_numbers ns) tt r p q

pub line_failed : (old mid : Option (List ℕ)) (ns : List ℕ) (fault : WriteFault) (r : Result (Unit {0}) WriteFault) → Writes {T = Unit {0}} old mid (codes "=") (Err fault)
    → IsErrAnd r (λ y. y ≡ fault) → Writes old mid (state_line ns) r
line_failed old mid ns fault r p e = failed_within old mid (codes "=") (further_numbers ns) fault r p e

module _ (old mid : Option (List ℕ)) (ns : List ℕ) (i : ℕ) (more : i < length ns) where
  -- the next number was written, so if those after it are written next, all that were left are
  pub number_written : Writes {T = Unit {0}} old mid (numbered (codes " ") (get_or ns i 0)) (Ok tt) → (new : Option (List ℕ)) (r : Result (Unit {0}) WriteFault)
      → Writes mid new (further_numbers (drop (i + 1) ns)) r → Writes old new (further_numbers (drop i ns)) r
  number_written p new r q = rw (drop-cons ns i 0 more) (wrote_then old mid new (numbered (codes " ") (get_or ns i 0)) (further_numbers (drop (suc i) ns)) tt r p (rw (add-one i) at q))

  pub number_failed : (fault : WriteFault) (r : Result (Unit {0}) WriteFault) → Writes {T = Unit {0}} old mid (numbered (codes " ") (get_or ns i 0)) (Err fault)
      → IsErrAnd r (λ y. y ≡ fault) → Writes old mid (further_numbers (drop i ns)) r
  number_failed fault r p e = rw (drop-cons ns i 0 more) (failed_within old mid (numbered (codes " ") (get_or ns i 0)) (further_numbers (drop (suc i) ns)) fault r p e)

-- no number is left, so the end of the line is what is left
pub line_ends : (old new : Option (List ℕ)) (ns : List ℕ) (i : ℕ) (r : Result (Unit {0}) WriteFault) → length ns ≤ i → Writes old new (codes "\n") r
    → Writes old new (further_numbers (drop i ns)) r
line_ends old new ns i r past p = rw (drop_all i ns past) p
