-- The rows of a report: the row of a worker that added some numbers, and the rows of a journal.
use Rattle.std.specs.Prelude.{ℕ, ◌+◌, ◌-◌, ◌^◌, ◌<◌, zero, suc, List, [], ◌∷◌, length, sum, slice_index_or, Option, None}
use Rattle.lfm_model.specs.declared.refusals.Refusal.{Refusal}
use Rattle.lfm_model.specs.declared.objects.TotalOp.{TotalOp}
use Rattle.lfm_model.specs.declared.journals.Entry.{Entry}
use Rattle.lfm_model.specs.Journals.{own}
use Rattle.lfm_script.specs.declared.rows.Row.{Row}
use Rattle.lfm_script.specs.Adds.{adds}

-- the row of a worker that added these numbers
abbrev pub row_of : ℕ → List ℕ → Option Refusal → Row
row_of w ks refused = record { worker = w; count = length ks; sum = sum ks; refused = refused }

-- the row, after its worker has added these numbers too
abbrev pub row_plus : Row → List ℕ → Row
row_plus r ks = record { worker = r.worker; count = r.count + length ks; sum = r.sum + sum ks; refused = r.refused }

-- the count and the sum are 64-bit numbers
pub record FitsRow (r : Row) : Type 0 where
  pub count : r.count < 2 ^ 64
  pub sum : r.sum < 2 ^ 64

-- the rows of n workers from number w on
abbrev pub rows_from : (ℕ → Row) → ℕ → ℕ → List Row
rows_from row w zero = []
rows_from row w (suc n) = row w ∷ rows_from row (w + 1) n

-- the row of worker w in a run that left this journal
abbrev pub run_row : List (Entry TotalOp) → (ℕ → Option Refusal) → ℕ → Row
run_row journal refused w = row_of w (adds (own w journal)) (refused w)

-- the refusal of worker w, if the list has those of the workers from 1 on
abbrev pub refusal_at : List (Option Refusal) → ℕ → Option Refusal
refusal_at refusals w = slice_index_or refusals (w - 1) None
