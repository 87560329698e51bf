-- The text of a report, row by row.
use Rattle.std.proofs.Common.{◌≡◌, ◌≤◌, ◌<◌, ◌+◌, ℕ, List, ◌++◌, length, get_or, drop, Option, Result, Ok, Err, refl}
use Rattle.std.specs.Prelude.{IsErrAnd}
use Rattle.std.proofs.lemmas.List.{drop_all, drop_more}
use Rattle.lfm_text.specs.declared.faults.WriteFault.{WriteFault}
use Rattle.lfm_text.specs.Writing.{Writes}
use Rattle.lfm_text.proofs.Writes.{wrote_then, failed_within, written_nothing}
use Rattle.lfm_script.specs.declared.rows.Row.{Row}
use Rattle.lfm_script.specs.Report.{row_text, rows_text}

rows_text-drop : (i : ℕ) (rows : List Row) (d : Row) → i < length rows → rows_text (drop i rows) ≡ row_text (get_or rows i d) ++ rows_text (drop (i + 1) rows)
rows_text-drop i rows d more = rw (drop_more rows i d more) refl

-- a row was written: with the text of the rows after it, the text from this row on is written
pub row_written : (i : ℕ) (rows : List Row) (d : Row) → i < length rows → (old mid new : Option (List ℕ)) (r : Result (Unit {0}) WriteFault)
    → Writes {T = Unit {0}} old mid (row_text (get_or rows i d)) (Ok tt) → Writes mid new (rows_text (drop (i + 1) rows)) r → Writes old new (rows_text (drop i rows)) r
row_written i rows d more old mid new r p q = rw (rows_text-drop i rows d more) (wrote_then old mid new _ _ tt r p q)

pub row_failed : (i : ℕ) (rows : List Row) (d : Row) → i < length rows → (old mid : Option (List ℕ)) (fault : WriteFault) (r : Result (Unit {0}) WriteFault)
    → Writes {T = Unit {0}} old mid (row_text (get_or rows i d)) (Err fault) → IsErrAnd r (λ y. y ≡ fault) → Writes old mid (rows_text (drop i rows)) r
row_failed i rows d more old mid fault r p e = rw (rows_text-drop i rows d more) (failed_within old mid _ _ fault r p e)

-- no row is left, so all of the text is written
pub rows_end : (a : Option (List ℕ)) (i : ℕ) (rows : List Row) → length rows ≤ i → Writes a a (rows_text (drop i rows)) (Ok (tt {0}))
rows_end a i rows past = rw (drop_all i rows past) (written_nothing a (tt {0}))
