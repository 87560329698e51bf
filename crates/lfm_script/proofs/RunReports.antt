-- The report of a run does not depend on the order of its journal. It is the report of the commands that the workers made, and
-- if each worker made all of its commands, it is the report of the script.
use Rattle.std.proofs.Common.{◌≡◌, ◌≤◌, ◌<◌, ◌+◌, ◌^◌, zero, suc, ℕ, true, List, [], ◌∷◌, take, length, sum, Option, None, refl, sym, ◌∙◌, ap, arith, take_all}
use Rattle.lfm_model.specs.declared.refusals.Refusal.{Refusal}
use Rattle.lfm_model.specs.declared.objects.TotalOp.{TotalOp}
use Rattle.lfm_model.specs.declared.journals.Entry.{Entry}
use Rattle.lfm_model.specs.Journals.{own, Within}
use Rattle.lfm_model.specs.Sums.{sum_to}
use Rattle.lfm_script.specs.declared.rows.Row.{Row}
use Rattle.lfm_script.specs.declared.script.Command.{Command}
use Rattle.lfm_script.specs.declared.script.ScriptLine.{ScriptLine}
use Rattle.lfm_script.specs.script.Commands.{commands_of}
use Rattle.lfm_script.specs.script.Limits.{header_allowed, lines_allowed}
use Rattle.lfm_script.specs.script.Grammar.{Plan, plan_allowed}
use Rattle.lfm_script.specs.Adds.{adds, command_adds, all_adds, worker_adds, lines_adds}
use Rattle.lfm_script.specs.Rows.{rows_from, row_of, run_row}
use Rattle.lfm_script.specs.Report.{script_row, report_text, run_text, script_text, total_of, IsRunOf}
use Rattle.lfm_script.specs.Runs.{made_adds, made_row, made_total, IsReport, IsRunOfMade}
use Rattle.lfm_text.specs.Text.{max_lines}
use Rattle.lfm_script.proofs.AddedSums.{sum-append, both, lines_small, lines_sum, journal_sum, total_is}

-- if each worker's entries add what its own lines add, all entries add up to the script's sum
sums_agree : (n : ℕ) (es : List (Entry TotalOp)) (ls : List ScriptLine) → ((w : ℕ) → 0 < w → w ≤ n → adds (own w es) ≡ worker_adds w ls)
    → sum_to (λ s. sum (adds (own s es))) n ≡ sum_to (λ s. sum (worker_adds s ls)) n
sums_agree zero es ls same = refl
sums_agree (suc n) es ls same =
    let rest = sums_agree n es ls (λ w p q. same w p (omega arith)) in
    let last = ap sum (same (suc n) (omega arith) (omega arith)) in
    omega arith

pub total_told : (p : Plan) (journal : List (Entry TotalOp)) → plan_allowed p ≡ true → length p.lines < max_lines → Within p.workers journal → IsRunOf p journal
    → total_of journal ≡ sum (lines_adds p.lines)
total_told p journal is_allowed few within own_lines =
    let lines = (both (header_allowed p.workers p.conditions) (lines_allowed p.workers p.conditions p.lines) is_allowed).1 in
    let low = lines_small p.workers p.conditions p.lines lines in
    let left = journal_sum p.workers journal within in
    let right = lines_sum p.workers p.conditions p.lines lines in
    let middle = sums_agree p.workers journal p.lines own_lines in
    let same : sum (adds journal) ≡ sum (lines_adds p.lines) = left ∙ middle ∙ sym right in
    let told = total_is (record { 0 = 0 }) journal (omega (arith, same, low, few)) in
    omega (arith, told, same)

pub rows_same : (f g : ℕ → Row) (w n : ℕ) → ((k : ℕ) → w ≤ k → k < w + n → f k ≡ g k) → rows_from f w n ≡ rows_from g w n
rows_same f g w zero same = refl
rows_same f g w (suc n) same =
    let rest = rows_same f g (w + 1) n (λ k p q. same k (omega arith) (omega arith)) in
    ap (λ x. x ∷ rows_from f (w + 1) n) (same w (omega arith) (omega arith)) ∙ ap (λ xs. g w ∷ xs) rest

pub text_told : (p : Plan) (journal : List (Entry TotalOp)) → plan_allowed p ≡ true → length p.lines < max_lines → Within p.workers journal → IsRunOf p journal
    → run_text p.workers journal (λ w. None) (total_of journal) true ≡ script_text p
text_told p journal is_allowed few within own_lines =
    ap (λ rows. report_text rows (total_of journal) true)
    (rows_same (run_row journal (λ w. None)) (script_row p) 1 p.workers (λ k q r. ap (λ ks. row_of k ks None) (own_lines k (omega arith) (omega arith))))
    ∙ ap (λ total. report_text (rows_from (script_row p) 1 p.workers) total true) (total_told p journal is_allowed few within own_lines)

-- the first commands add no more than all
front_adds : (i : ℕ) (ms : List Command) → sum (all_adds (take i ms)) ≤ sum (all_adds ms)
front_adds zero ms = omega arith
front_adds (suc i) [] = omega arith
front_adds (suc i) (m ∷ ms) =
    let rest = front_adds i ms in
    let left = sum-append (command_adds m) (all_adds (take i ms)) in
    let right = sum-append (command_adds m) (all_adds ms) in
    omega arith

fronts : (f g : ℕ → ℕ) (n : ℕ) → ((w : ℕ) → f w ≤ g w) → sum_to f n ≤ sum_to g n
fronts f g zero each = omega arith
fronts f g (suc n) each = let rest = fronts f g n each in let last = each (suc n) in omega arith

sums_same : (f g : ℕ → ℕ) (n : ℕ) → ((w : ℕ) → 0 < w → w ≤ n → f w ≡ g w) → sum_to f n ≡ sum_to g n
sums_same f g zero same = refl
sums_same f g (suc n) same =
    let rest = sums_same f g n (λ w p q. same w p (omega arith)) in
    let last = same (suc n) (omega arith) (omega arith) in
    omega arith

-- what the entries add is what the workers' commands add, and the sum is a 64-bit number
pub record AddsMade (p : Plan) (made : ℕ → ℕ) (journal : List (Entry TotalOp)) : Type 0 where
  pub sum_is : sum (adds journal) ≡ made_total p made
  pub fits : sum (adds journal) < 2 ^ 64

pub adds_made : (p : Plan) (made : ℕ → ℕ) (journal : List (Entry TotalOp)) → plan_allowed p ≡ true → length p.lines < max_lines → Within p.workers journal → IsRunOfMade p made journal
    → AddsMade p made journal
adds_made p made journal is_allowed few within own_made =
    let lines = (both (header_allowed p.workers p.conditions) (lines_allowed p.workers p.conditions p.lines) is_allowed).1 in
    let low = lines_small p.workers p.conditions p.lines lines in
    let left = journal_sum p.workers journal within in
    let right = lines_sum p.workers p.conditions p.lines lines in
    let middle = sums_same (λ s. sum (adds (own s journal))) (λ s. sum (made_adds p made s)) p.workers (λ w q r. ap sum (own_made w q r)) in
    let below = fronts (λ s. sum (made_adds p made s)) (λ s. sum (worker_adds s p.lines)) p.workers (λ w. front_adds (made w) (commands_of w p.lines)) in
    let same : sum (adds journal) ≡ made_total p made = left ∙ middle in
    record { sum_is = same; fits = omega (arith, same, low, few, below, right) }

-- the total is what the workers' commands add
pub made_total_told : (p : Plan) (made : ℕ → ℕ) (journal : List (Entry TotalOp)) → plan_allowed p ≡ true → length p.lines < max_lines → Within p.workers journal → IsRunOfMade p made journal
    → total_of journal ≡ made_total p made
made_total_told p made journal is_allowed few within own_made =
    let added = adds_made p made journal is_allowed few within own_made in
    let told = total_is (record { 0 = 0 }) journal (omega (arith, added.fits)) in
    omega (arith, told, added.sum_is)

-- the text of a run is that of the commands that were made
pub made_text_told : (p : Plan) (made : ℕ → ℕ) (refused : ℕ → Option Refusal) (journal : List (Entry TotalOp)) → plan_allowed p ≡ true → length p.lines < max_lines
    → Within p.workers journal → IsRunOfMade p made journal
    → run_text p.workers journal refused (total_of journal) true ≡ report_text (rows_from (made_row p made refused) 1 p.workers) (made_total p made) true
made_text_told p made refused journal is_allowed few within own_made =
    ap (λ rows. report_text rows (total_of journal) true)
    (rows_same (run_row journal refused) (made_row p made refused) 1 p.workers (λ k q r. ap (λ ks. row_of k ks (refused k)) (own_made k (omega arith) (omega arith))))
    ∙ ap (λ total. report_text (rows_from (made_row p made refused) 1 p.workers) total true) (made_total_told p made journal is_allowed few within own_made)

-- a report in which none was refused is the script's
pub script_told : (p : Plan) (text : List ℕ) → plan_allowed p ≡ true → IsReport p text true → text ≡ script_text p
script_told p text is_allowed report =
    let lines = (both (header_allowed p.workers p.conditions) (lines_allowed p.workers p.conditions p.lines) is_allowed).1 in
    let none = report.none refl in
    let all : (w : ℕ) → 0 < w → w ≤ p.workers → made_adds p report.made w ≡ worker_adds w p.lines =
    λ w q r. ap all_adds (take_all (report.made w) (commands_of w p.lines) (report.whole w q r (none w q r))) in
    let total : made_total p report.made ≡ sum (lines_adds p.lines) =
    sums_same (λ s. sum (made_adds p report.made s)) (λ s. sum (worker_adds s p.lines)) p.workers (λ w q r. ap sum (all w q r)) ∙ sym (lines_sum p.workers p.conditions p.lines lines) in
    report.text_is
    ∙ ap (λ rows. report_text rows (made_total p report.made) true)
    (rows_same (made_row p report.made report.refused) (script_row p) 1 p.workers
    (λ k q r. ap (λ ks. row_of k ks (report.refused k)) (all k (omega arith) (omega arith)) ∙ ap (λ o. row_of k (worker_adds k p.lines) o) (none k (omega arith) (omega arith))))
    ∙ ap (λ t. report_text (rows_from (script_row p) 1 p.workers) t true) total
