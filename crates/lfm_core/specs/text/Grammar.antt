-- What the bytes of a schedule spell.
use Rattle.std.specs.Prelude.{ℕ, ◌≡◌, ◌≤◌, ◌==◌, ◌&&◌, nat_le, if◌then◌else◌, ⊤, List, [], ◌∷◌, Option, Some, None, Result, Ok, Err, codes}
use Rattle.std.specs.Str.{bytes_eq}
use Rattle.lfm_protocol.specs.declared.answers.Call.TheVariants.{Lock, TryLock, Unlock, StartWait, SendLock, Receive}
use Rattle.lfm_core.specs.declared.text.schedule.Act.{Act}
use Rattle.lfm_core.specs.declared.text.schedule.Act.TheVariants.{Begin, Steps, ToEnd}
use Rattle.lfm_core.specs.declared.text.schedule.Line.{Line}
use Rattle.lfm_core.specs.declared.text.schedule.Schedule.{Schedule}
use Rattle.lfm_core.specs.declared.text.faults.ReplayFault.{ReplayFault}
use Rattle.lfm_core.specs.declared.text.faults.ReplayFault.TheVariants.{Syntax, Limit, Read, Write, Memory}
use Rattle.lfm_protocol.specs.declared.limits.Limits.{Limits}
use Rattle.lfm_protocol.specs.Limits.{max_budget, are_in_limits}
use Rattle.lfm_text.specs.Grammar.{Rules, said_in}
use Rattle.lfm_text.specs.Text.{number_of}

-- the greatest number of steps that one line may ask for
abbrev pub max_steps : ℕ
max_steps = 999

-- 1 to 999 steps
abbrev pub steps_of : Option ℕ → Option Act
steps_of None = None
steps_of (Some k) = if nat_le 1 k && nat_le k max_steps then Some (Steps k) else None

-- the act that one word spells, if it is not a number of steps
abbrev pub plain_act_of : List ℕ → Option Act
plain_act_of word =
    if bytes_eq word (codes ".") then Some (Steps 1)
    else if bytes_eq word (codes "*") then Some ToEnd
    else if bytes_eq word (codes "lock") then Some (Begin Lock)
    else if bytes_eq word (codes "try_lock") then Some (Begin TryLock)
    else if bytes_eq word (codes "unlock") then Some (Begin Unlock)
    else if bytes_eq word (codes "start_wait") then Some (Begin StartWait)
    else if bytes_eq word (codes "receive") then Some (Begin Receive)
    else None

-- the act that one word after the seat spells; a number of steps has a plus sign before it
abbrev pub act_of : List ℕ → Option Act
act_of [] = plain_act_of []
act_of (c ∷ cs) = if c == 43 then steps_of (number_of cs) else plain_act_of (c ∷ cs)

-- a seat and its act, if both can be read
abbrev pub seat_line : Option ℕ → Option Act → Option Line
seat_line None act = None
seat_line (Some s) None = None
seat_line (Some s) (Some a) = Some (record { seat = s; act = a })

abbrev pub send_act : Option ℕ → Option Act
send_act None = None
send_act (Some t) = Some (Begin (SendLock t))

abbrev pub send_of : List ℕ → List ℕ → List ℕ → Option Line
send_of seat call target = if bytes_eq call (codes "send_lock") then seat_line (number_of seat) (send_act (number_of target)) else None

-- the line that the words of a line after the first spell
abbrev pub line_of : List (List ℕ) → Option Line
line_of (seat ∷ act ∷ []) = seat_line (number_of seat) (act_of act)
line_of (seat ∷ call ∷ target ∷ []) = send_of seat call target
line_of _ = None

-- a number of seats and a budget, if both can be read
abbrev pub header : Option ℕ → Option ℕ → Option Limits
header None budget = None
header (Some n) None = None
header (Some n) (Some b) = Some (record { seats = n; budget = b })

-- the limits that the words of the first line spell, with the largest budget if they name none
abbrev pub header_of : List (List ℕ) → Option Limits
header_of (word ∷ seats ∷ []) = if bytes_eq word (codes "seats") then header (number_of seats) (Some max_budget) else None
header_of (word ∷ seats ∷ budget ∷ []) = if bytes_eq word (codes "seats") then header (number_of seats) (number_of budget) else None
header_of _ = None

-- a schedule, regardless of where its lines are in memory
pub record Plan : Type 0 where
  pub seats : ℕ
  pub budget : ℕ
  pub lines : List Line

abbrev pub plan_of : Schedule → Plan
plan_of s = record { seats = s.seats; budget = s.budget; lines = s.lines.items }

abbrev pub in_limits : Limits → List Line → Result Plan ReplayFault
in_limits limits ls = if are_in_limits limits.seats limits.budget then Ok (record { seats = limits.seats; budget = limits.budget; lines = ls }) else Err Limit

-- the grammar of schedules
abbrev pub schedules : Rules Limits Line Plan ReplayFault
schedules = record { first = header_of; line = line_of; whole = in_limits; syntax_fault = Syntax; limit_fault = Limit }

-- the schedule that a text spells, or its first fault
abbrev pub plan_in : List ℕ → Result Plan ReplayFault
plan_in text = said_in schedules text

-- the result, as shown by view, is what was read from the text, unless an allocation failed
abbrev pub Gives : {X Y : Type 0} → (X → Y) → Result X ReplayFault → Result Y ReplayFault → Type 0
Gives view (Ok x) said = said ≡ Ok (view x)
Gives view (Err (Syntax n)) said = said ≡ Err (Syntax n)
Gives view (Err Limit) said = said ≡ Err Limit
Gives view (Err Read) said = ⊥
Gives view (Err Write) said = ⊥
Gives view (Err Memory) said = ⊤

-- an act that asks for steps asks for 1 to 999
abbrev pub HasFewSteps : Act → Type 0
HasFewSteps (Begin call) = ⊤
HasFewSteps (Steps k) = (1 ≤ k) × (k ≤ max_steps)
HasFewSteps ToEnd = ⊤
