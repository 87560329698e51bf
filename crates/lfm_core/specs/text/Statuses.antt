-- The exit statuses of a replay.
use Rattle.std.specs.Prelude.{ℕ, Bool, true, false, Result, Ok, Err}
use Rattle.lfm_core.specs.declared.text.faults.ReplayFault.{ReplayFault}
use Rattle.lfm_core.specs.declared.text.faults.ReplayFault.TheVariants.{Syntax, Limit, Read, Write, Memory}

-- the exit status of a replay
abbrev pub replay_status : Result Bool ReplayFault → ℕ
replay_status (Ok true) = 0
replay_status (Ok false) = 1
replay_status (Err (Syntax n)) = 1
replay_status (Err Limit) = 1
replay_status (Err Read) = 3
replay_status (Err Write) = 3
replay_status (Err Memory) = 4
