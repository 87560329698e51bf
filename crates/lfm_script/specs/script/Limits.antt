-- Which numbers a script may name.
use Rattle.std.specs.Prelude.{ℕ, Bool, true, not, ◌&&◌, nat_lt, List, [], ◌∷◌}
use Rattle.lfm_script.specs.declared.script.Command.{Command}
use Rattle.lfm_script.specs.declared.script.Command.TheVariants.{Add, Until, One, All}
use Rattle.lfm_script.specs.declared.script.ScriptLine.{ScriptLine}

-- whether this number, counted from 1, is at most this count
abbrev pub is_there : ℕ → ℕ → Bool
is_there number count = nat_lt 0 number && not (nat_lt count number)

-- the most workers
abbrev pub max_workers : ℕ
max_workers = 4095

-- the most conditions
abbrev pub max_conditions : ℕ
max_conditions = 16

-- the most that one command may add, or wait for
abbrev pub max_number : ℕ
max_number = 1000000000

-- whether the condition exists and the number is not too large
abbrev pub command_allowed : ℕ → Command → Bool
command_allowed conditions (Add k) = not (nat_lt max_number k)
command_allowed conditions (Until c k) = is_there c conditions && not (nat_lt max_number k)
command_allowed conditions (One c) = is_there c conditions
command_allowed conditions (All c) = is_there c conditions

-- whether the worker exists too
abbrev pub line_allowed : ℕ → ℕ → ScriptLine → Bool
line_allowed workers conditions l = is_there l.worker workers && command_allowed conditions l.command

abbrev pub lines_allowed : ℕ → ℕ → List ScriptLine → Bool
lines_allowed workers conditions [] = true
lines_allowed workers conditions (l ∷ ls) = line_allowed workers conditions l && lines_allowed workers conditions ls

-- whether there are 1 to 4,095 workers and at most 16 conditions
abbrev pub header_allowed : ℕ → ℕ → Bool
header_allowed workers conditions = is_there workers max_workers && not (nat_lt max_conditions conditions)
