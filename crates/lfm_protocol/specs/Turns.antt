-- Whether a turn leaves its call open or refuses it, and how many steps a call may make.
use Rattle.std.specs.Prelude.{ℕ, Bool, true, false, ◌+◌, length}
use Rattle.lfm_protocol.specs.declared.answers.Turn.{Turn}
use Rattle.lfm_protocol.specs.declared.answers.Turn.TheVariants.{Open, Ended, Refused}
use Rattle.lfm_protocol.specs.Core.{Core}

-- the call is still open
abbrev pub is_open : Turn → Bool
is_open Open = true
is_open (Ended answer) = false
is_open (Refused why) = false

-- the call or the step was refused
abbrev pub is_refused : Turn → Bool
is_refused Open = false
is_refused (Ended answer) = false
is_refused (Refused why) = true

-- a call needs at most this many steps while no other seat makes a step: the longest call follows the links of all seats
abbrev pub longest_call : Core → ℕ
longest_call c = length c.seats + 16
