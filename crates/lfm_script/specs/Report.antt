-- The report of a run of workers: its text, the report of a script, and the report of a journal.
use Rattle.std.specs.Prelude.{ℕ, Bool, true, false, ◌≡◌, ◌<◌, ◌≤◌, List, [], ◌∷◌, ◌++◌, sum, Option, Some, None, codes, decimal}
use Rattle.lfm_model.specs.declared.refusals.Refusal.{Refusal}
use Rattle.lfm_model.specs.Refusals.{name_of}
use Rattle.lfm_model.specs.declared.objects.TotalOp.{TotalOp}
use Rattle.lfm_model.specs.declared.journals.Entry.{Entry}
use Rattle.lfm_model.specs.Journals.{own, after_all}
use Rattle.lfm_model.specs.Totals.{total_after}
use Rattle.lfm_text.specs.FaultLines.{limit_text, syntax_text}
use Rattle.lfm_text.specs.Writing.{joined}
use Rattle.lfm_script.specs.declared.rows.Row.{Row}
use Rattle.lfm_script.specs.declared.faults.WorkFault.{WorkFault}
use Rattle.lfm_script.specs.declared.faults.WorkFault.TheVariants.{Syntax, Limit}
use Rattle.lfm_script.specs.script.Grammar.{Plan}
use Rattle.lfm_script.specs.Adds.{adds, worker_adds, lines_adds}
use Rattle.lfm_script.specs.Rows.{row_of, rows_from, run_row}

abbrev pub refused_text : Option Refusal → List ℕ
refused_text None = []
refused_text (Some refusal) = joined (codes " refused " ∷ name_of refusal ∷ [])

abbrev pub count_text : Row → List ℕ
count_text r = joined (codes "worker " ∷ decimal r.worker ∷ codes " adds " ∷ decimal r.count ∷ [])

abbrev pub row_text : Row → List ℕ
row_text r = joined (count_text r ∷ codes " sum " ∷ decimal r.sum ∷ refused_text r.refused ∷ codes "\n" ∷ [])

abbrev pub rows_text : List Row → List ℕ
rows_text [] = []
rows_text (r ∷ rs) = row_text r ++ rows_text rs

abbrev pub lawful_text : Bool → List ℕ
lawful_text true = codes "lawful\n"
lawful_text false = codes "unlawful\n"

abbrev pub total_text : ℕ → Bool → List ℕ
total_text total lawful = joined (codes "total " ∷ decimal total ∷ codes "\n" ∷ lawful_text lawful ∷ [])

-- a line for each row, the total, and whether the journal was lawful
abbrev pub report_text : List Row → ℕ → Bool → List ℕ
report_text rows total lawful = rows_text rows ++ total_text total lawful

-- the row of a worker that made all of its lines
abbrev pub script_row : Plan → ℕ → Row
script_row p w = row_of w (worker_adds w p.lines) None

-- the report of a script whose run ends with no worker refused
abbrev pub script_text : Plan → List ℕ
script_text p = report_text (rows_from (script_row p) 1 p.workers) (sum (lines_adds p.lines)) true

-- the report of a run that left this journal and total, with these workers refused
abbrev pub run_text : ℕ → List (Entry TotalOp) → (ℕ → Option Refusal) → ℕ → Bool → List ℕ
run_text workers journal refused total lawful = report_text (rows_from (run_row journal refused) 1 workers) total lawful

-- the total after a journal
abbrev pub total_of : List (Entry TotalOp) → ℕ
total_of journal = (after_all total_after (record { 0 = 0 }) journal).0

-- each worker's entries add what its own lines add
abbrev pub IsRunOf : Plan → List (Entry TotalOp) → Type 0
IsRunOf p journal = (w : ℕ) → 0 < w → w ≤ p.workers → adds (own w journal) ≡ worker_adds w p.lines

-- the line of a fault of the input
abbrev pub fault_text : WorkFault → List ℕ
fault_text (Syntax number) = syntax_text number
fault_text Limit = limit_text
fault_text _ = []
