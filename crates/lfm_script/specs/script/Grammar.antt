-- What the bytes of a script spell.
use Rattle.std.specs.Prelude.{ℕ, Bool, ◌≡◌, ◌&&◌, if◌then◌else◌, ⊤, List, [], ◌∷◌, Option, Some, None, Result, Ok, Err, codes}
use Rattle.std.specs.Str.{bytes_eq}
use Rattle.lfm_text.specs.Grammar.{Rules, said_in}
use Rattle.lfm_text.specs.Text.{number_of}
use Rattle.lfm_script.specs.script.Limits.{header_allowed, lines_allowed}
use Rattle.lfm_script.specs.declared.script.Command.{Command}
use Rattle.lfm_script.specs.declared.script.Command.TheVariants.{Add, Until, One, All}
use Rattle.lfm_script.specs.declared.script.ScriptLine.{ScriptLine}
use Rattle.lfm_script.specs.declared.script.Script.{Script}
use Rattle.lfm_script.specs.declared.faults.WorkFault.{WorkFault}
use Rattle.lfm_script.specs.declared.faults.WorkFault.TheVariants.{Syntax, Limit, Read, Write, Memory, Stuck}

-- the command that one word and its number spell
abbrev pub short_command_of : List ℕ → ℕ → Option Command
short_command_of word k =
    if bytes_eq word (codes "add") then Some (Add k)
    else if bytes_eq word (codes "one") then Some (One k)
    else if bytes_eq word (codes "all") then Some (All k)
    else None

-- the same, if the number is spelled
abbrev pub short_command : List ℕ → Option ℕ → Option Command
short_command word None = None
short_command word (Some k) = short_command_of word k

-- a condition and the number that is waited for, if both are spelled
abbrev pub until_command : Option ℕ → Option ℕ → Option Command
until_command None bound = None
until_command (Some c) None = None
until_command (Some c) (Some k) = Some (Until c k)

-- a worker and what it does, if both are spelled
abbrev pub worker_line : Option ℕ → Option Command → Option ScriptLine
worker_line None command = None
worker_line (Some w) None = None
worker_line (Some w) (Some m) = Some (record { worker = w; command = m })

-- the line that four words spell
abbrev pub until_of : List ℕ → List ℕ → List ℕ → List ℕ → Option ScriptLine
until_of worker word condition bound =
    if bytes_eq word (codes "until") then worker_line (number_of worker) (until_command (number_of condition) (number_of bound)) else None

-- the line after the first that these words spell
abbrev pub line_of : List (List ℕ) → Option ScriptLine
line_of (worker ∷ word ∷ number ∷ []) = worker_line (number_of worker) (short_command word (number_of number))
line_of (worker ∷ word ∷ condition ∷ bound ∷ []) = until_of worker word condition bound
line_of _ = None

-- two numbers, if both are spelled
abbrev pub header : Option ℕ → Option ℕ → Option (ℕ × ℕ)
header None conditions = None
header (Some n) None = None
header (Some n) (Some c) = Some (n, c)

-- the numbers of the first line that these words spell
abbrev pub header_of : List (List ℕ) → Option (ℕ × ℕ)
header_of (word ∷ workers ∷ conditions ∷ []) = if bytes_eq word (codes "workers") then header (number_of workers) (number_of conditions) else None
header_of _ = None

-- a script as plain data, without the memory of its lines
pub record Plan : Type 0 where
  pub workers : ℕ
  pub conditions : ℕ
  pub lines : List ScriptLine

abbrev pub script_of : Script → Plan
script_of s = record { workers = s.workers; conditions = s.conditions; lines = s.lines.items }

-- whether the numbers of workers and conditions are allowed, those of all lines exist, and no number is too large
abbrev pub plan_allowed : Plan → Bool
plan_allowed p = header_allowed p.workers p.conditions && lines_allowed p.workers p.conditions p.lines

abbrev pub in_limits : ℕ × ℕ → List ScriptLine → Result Plan WorkFault
in_limits h lines =
    if plan_allowed (record { workers = h.0; conditions = h.1; lines = lines }) then Ok (record { workers = h.0; conditions = h.1; lines = lines }) else Err Limit

-- the grammar of scripts
abbrev pub scripts : Rules (ℕ × ℕ) ScriptLine Plan WorkFault
scripts = record { first = header_of; line = line_of; whole = in_limits; syntax_fault = Syntax; limit_fault = Limit }

-- the script that a text spells, or its first fault
abbrev pub script_in : List ℕ → Result Plan WorkFault
script_in text = said_in scripts text

-- the result, mapped by view, is the reading of the text, unless memory was refused
abbrev pub Gives : {X Y : Type 0} → (X → Y) → Result X WorkFault → Result Y WorkFault → Type 0
Gives view (Ok x) said = said ≡ Ok (view x)
Gives view (Err (Syntax n)) said = said ≡ Err (Syntax n)
Gives view (Err Limit) said = said ≡ Err Limit
Gives view (Err Read) said = ⊥
Gives view (Err Write) said = ⊥
Gives view (Err Memory) said = ⊤
Gives view (Err Stuck) said = ⊥
