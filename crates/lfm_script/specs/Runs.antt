-- The report of a run in which each worker made its first commands.
use Rattle.std.specs.Prelude.{ℕ, Bool, true, false, ◌≡◌, ◌⊎◌, ◌<◌, ◌≤◌, ◌/◌, ⊤, List, take, length, sum, Option, None, Some, is_some}
use mathlib.Core.Option.{some}
use lib.ListN.{get_elem?}
use Rattle.lfm_model.specs.declared.refusals.Refusal.{Refusal}
use Rattle.lfm_model.specs.declared.objects.TotalOp.{TotalOp}
use Rattle.lfm_model.specs.declared.journals.Entry.{Entry}
use Rattle.lfm_model.specs.Journals.{LawfulJournal, Within, own}
use Rattle.lfm_model.specs.Sums.{sum_to}
use Rattle.lfm_script.specs.declared.rows.Row.{Row}
use Rattle.lfm_script.specs.declared.script.Command.{Command}
use Rattle.lfm_script.specs.declared.script.Command.TheVariants.{Add, Until, One, All}
use Rattle.lfm_script.specs.script.Grammar.{Plan}
use Rattle.lfm_script.specs.Adds.{adds, all_adds}
use Rattle.lfm_script.specs.script.Commands.{commands_of}
use Rattle.lfm_script.specs.Report.{report_text}
use Rattle.lfm_script.specs.Rows.{row_of, rows_from}

-- what the first `made w` commands of worker w add
abbrev pub made_adds : Plan → (ℕ → ℕ) → ℕ → List ℕ
made_adds p made w = all_adds (take (made w) (commands_of w p.lines))

abbrev pub made_row : Plan → (ℕ → ℕ) → (ℕ → Option Refusal) → ℕ → Row
made_row p made refused w = row_of w (made_adds p made w) (refused w)

abbrev pub made_total : Plan → (ℕ → ℕ) → ℕ
made_total p made = sum_to (λ w. sum (made_adds p made w)) p.workers

-- each worker's entries add what its first commands add
abbrev pub IsRunOfMade : Plan → (ℕ → ℕ) → List (Entry TotalOp) → Type 0
IsRunOfMade p made journal = (w : ℕ) → 0 < w → w ≤ p.workers → adds (own w journal) ≡ made_adds p made w

-- a wake on this condition may be refused for this cause, with this number of conditions
abbrev pub WakeMayMeet : ℕ → ℕ → Refusal → Type 0
WakeMayMeet conditions condition Refusal.NoSuchSeat = condition ≡ 0 ⊎ (conditions < condition)
WakeMayMeet conditions condition Refusal.Spent = ⊤
WakeMayMeet conditions condition Refusal.NotWaiting = ⊤
WakeMayMeet conditions condition _ = ⊥

-- the command may be refused for this cause, with this number of conditions
abbrev pub MayMeet : ℕ → Command → Refusal → Type 0
MayMeet conditions (Add k) Refusal.Spent = ⊤
MayMeet conditions (Add k) _ = ⊥
MayMeet conditions (Until condition k) Refusal.Spent = ⊤
MayMeet conditions (Until condition k) Refusal.NoSuchSeat = condition ≡ 0 ⊎ (conditions < condition)
MayMeet conditions (Until condition k) Refusal.Busy = ⊤
MayMeet conditions (Until condition k) _ = ⊥
MayMeet conditions (One condition) r = WakeMayMeet conditions condition r
MayMeet conditions (All condition) r = WakeMayMeet conditions condition r

-- the most entries of a journal of a run
abbrev pub max_journal : ℕ
max_journal = 1048576

-- a worker has made the first i of these commands, and the next was refused for a cause that it may meet
abbrev pub RefusedAt : ℕ → List Command → ℕ → Refusal → Type 0
RefusedAt conditions ms i r = (c : Command) × (get_elem? ms i ≡ some c) × MayMeet conditions c r

-- The text is the report of a run in which each worker made its first commands: all of them if it was not refused, and
-- otherwise those before the refused one. There is a lawful journal of exactly these adds. All its entries are by the workers,
-- and no worker has more than its share. The verdict is true exactly if no worker was refused.
pub record IsReport (p : Plan) (text : List ℕ) (verdict : Bool) : Type 0 where
  pub made : ℕ → ℕ
  pub refused : ℕ → Option Refusal
  pub whole : (w : ℕ) → 0 < w → w ≤ p.workers → refused w ≡ None → length (commands_of w p.lines) ≤ made w
  pub fewer : (w : ℕ) → 0 < w → w ≤ p.workers → (r : Refusal) → refused w ≡ Some r → RefusedAt p.conditions (commands_of w p.lines) (made w) r
  pub journal : List (Entry TotalOp)
  pub lawful : LawfulJournal journal
  pub within : Within p.workers journal
  pub shares : (w : ℕ) → 0 < w → w ≤ p.workers → length (own w journal) ≤ max_journal / p.workers
  pub run : IsRunOfMade p made journal
  pub none : verdict ≡ true → (w : ℕ) → 0 < w → w ≤ p.workers → refused w ≡ None
  pub some : verdict ≡ false → (w : ℕ) × (0 < w) × (w ≤ p.workers) × (is_some (refused w) ≡ true)
  pub text_is : text ≡ report_text (rows_from (made_row p made refused) 1 p.workers) (made_total p made) true
