-- The exit statuses of a run of workers.
use Rattle.std.specs.Prelude.{ℕ, Bool, true, false, Result, Ok, Err}
use Rattle.lfm_script.specs.declared.faults.WorkFault.{WorkFault}
use Rattle.lfm_script.specs.declared.faults.WorkFault.TheVariants.{Syntax, Limit, Read, Write, Memory, Stuck}

-- the exit status of a run of workers
abbrev pub work_status : Result Bool WorkFault → ℕ
work_status (Ok true) = 0
work_status (Ok false) = 1
work_status (Err (Syntax n)) = 1
work_status (Err Limit) = 1
work_status (Err Read) = 3
work_status (Err Write) = 3
work_status (Err Memory) = 4
work_status (Err Stuck) = 5
