-- How schedules are written: a text for each line, and for a whole plan.
use Rattle.std.specs.Prelude.{ℕ, ◌≡◌, ◌≤◌, ◌<◌, ◌^◌, false, ⊤, ◌⊎◌, List, ◌++◌, All, codes, decimal}
use Rattle.lfm_protocol.specs.declared.answers.Call.{Call}
use Rattle.lfm_protocol.specs.declared.answers.Call.TheVariants.{Lock, TryLock, Unlock, StartWait, SendLock, Receive}
use Rattle.lfm_core.specs.declared.text.schedule.Act.{Act}
use Rattle.lfm_core.specs.declared.text.schedule.Act.TheVariants.{Begin, Steps, ToEnd}
use Rattle.lfm_core.specs.declared.text.schedule.Line.{Line}
use Rattle.lfm_text.specs.Grammar.{SpellsLines, lines_spelling}
use Rattle.lfm_text.specs.Text.{is_past_limit}
use Rattle.lfm_protocol.specs.declared.limits.Limits.{Limits}
use Rattle.lfm_core.specs.text.Grammar.{Plan, max_steps}
use Rattle.lfm_protocol.specs.Limits.{max_seats, max_budget, are_in_limits}

abbrev pub call_spelling : Call → List ℕ
call_spelling Lock = codes "lock"
call_spelling TryLock = codes "try_lock"
call_spelling Unlock = codes "unlock"
call_spelling StartWait = codes "start_wait"
call_spelling (SendLock target) = codes "send_lock " ++ decimal target
call_spelling Receive = codes "receive"

abbrev pub act_spelling : Act → List ℕ
act_spelling (Begin call) = call_spelling call
act_spelling (Steps k) = codes "+" ++ decimal k
act_spelling ToEnd = codes "*"

-- the text of a line after the first
abbrev pub line_spelling : Line → List ℕ
line_spelling l = decimal l.seat ++ (codes " " ++ act_spelling l.act)

-- the other form of a line with one step
abbrev pub one_step_spelling : ℕ → List ℕ
one_step_spelling seat = decimal seat ++ codes " ."

-- the text is a spelling of the line, in one of its forms
abbrev pub Spells : List ℕ → Line → Type 0
Spells text l = (text ≡ line_spelling l) ⊎ ((l.act ≡ Steps 1) × (text ≡ one_step_spelling l.seat))

-- the text of a first line, with a budget and without one
abbrev pub header_spelling : ℕ → ℕ → List ℕ
header_spelling seats budget = codes "seats " ++ (decimal seats ++ (codes " " ++ decimal budget))

abbrev pub short_header_spelling : ℕ → List ℕ
short_header_spelling seats = codes "seats " ++ decimal seats

-- the text is a spelling of the first line with this number of seats and this budget, in one of its forms
abbrev pub SpellsHeader : List ℕ → ℕ → ℕ → Type 0
SpellsHeader text seats budget = (text ≡ header_spelling seats budget) ⊎ ((budget ≡ max_budget) × (text ≡ short_header_spelling seats))

-- a call whose target, if it has one, has at most 18 digits
abbrev pub HasShortTarget : Call → Type 0
HasShortTarget Lock = ⊤
HasShortTarget TryLock = ⊤
HasShortTarget Unlock = ⊤
HasShortTarget StartWait = ⊤
HasShortTarget (SendLock target) = target < 10 ^ 18
HasShortTarget Receive = ⊤

abbrev pub IsWritableAct : Act → Type 0
IsWritableAct (Begin call) = HasShortTarget call
IsWritableAct (Steps k) = (1 ≤ k) × (k ≤ max_steps)
IsWritableAct ToEnd = ⊤

-- a line whose numbers a schedule may contain
pub record IsWritable (l : Line) : Type 0 where
  pub seat : l.seat < 10 ^ 18
  pub act : IsWritableAct l.act

-- the text of a whole plan: each line is ended by a line feed
abbrev pub plan_spelling : Plan → List ℕ
plan_spelling p = lines_spelling line_spelling (header_spelling p.seats p.budget) p.lines

-- a plan whose numbers are in range and whose text is not too long
pub record IsWritablePlan (p : Plan) : Type 0 where
  pub seats : (1 ≤ p.seats) × (p.seats ≤ max_seats)
  pub budget : (1 ≤ p.budget) × (p.budget ≤ max_budget)
  pub lines : All IsWritable p.lines
  pub short : is_past_limit (plan_spelling p) ≡ false

-- the text is a spelling of a first line, in one of its forms, and its numbers have at most 18 digits
abbrev pub SpellsFirst : List ℕ → Limits → Type 0
SpellsFirst text limits = SpellsHeader text limits.seats limits.budget × (limits.seats < 10 ^ 18) × (limits.budget < 10 ^ 18)

-- the text is a spelling of the line, in one of its forms, and a schedule may contain the numbers of the line
abbrev pub SpellsWritable : List ℕ → Line → Type 0
SpellsWritable text l = Spells text l × IsWritable l

-- a text that is not too long, whose lines are those of a plan within the limits
pub record SpellsPlan (text : List ℕ) (p : Plan) : Type 0 where
  pub lines : SpellsLines SpellsFirst SpellsWritable text (record { seats = p.seats; budget = p.budget }) p.lines
  pub seats : (1 ≤ p.seats) × (p.seats ≤ max_seats)
  pub budget : (1 ≤ p.budget) × (p.budget ≤ max_budget)

-- a text that is not too long, whose lines are those of a schedule, with a number of seats or a budget that no mutex may have
pub record SpellsOutOfRange (text : List ℕ) : Type 0 where
  pub limits : Limits
  pub lines : List Line
  pub spells : SpellsLines SpellsFirst SpellsWritable text limits lines
  pub outside : are_in_limits limits.seats limits.budget ≡ false
