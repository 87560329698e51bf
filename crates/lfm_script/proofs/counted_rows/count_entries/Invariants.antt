use Rattle.std.proofs.Common.{◌≡◌, ℕ, ◌+◌, ◌<◌, length, get_or, drop}
use Rattle.lfm_model.specs.Journals.{own}
use Rattle.lfm_script.specs.Adds.{adds}
use Rattle.lfm_script.specs.Rows.{row_plus}
use Rattle.lfm_script.proofs.counted_rows.count_entries.Given as goal

-- adding the entries that are left to each row gives the same as adding all entries to the row as it was before
abbrev pub invariant-counting : goal.invariant-counting
invariant-counting l = record {
  all : length l.rows ≡ length l.fn.rows;
  left : (i : ℕ) (d : _) → i < length l.fn.rows
      → row_plus (get_or l.rows i d) (adds (own (i + 1) (drop l.entry-index l.entries))) ≡ row_plus (get_or l.fn.rows i d) (adds (own (i + 1) l.entries));
}
