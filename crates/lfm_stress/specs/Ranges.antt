-- Which plans there may be.
use Rattle.std.specs.Prelude.{ℕ, ◌+◌, nat_lt, if◌then◌else◌, Option, Some, None}
use Rattle.lfm_stress.specs.declared.plan.Load.{Load}
use Rattle.lfm_stress.specs.declared.plan.Load.TheVariants.{Lock, Mixed, PingPong, Broadcast, Buffer, Limits}
use Rattle.lfm_stress.specs.declared.plan.OutOfRange.{OutOfRange}

-- the fewest threads of a load
abbrev pub least_threads : Load → ℕ
least_threads Lock = 1
least_threads Mixed = 1
least_threads PingPong = 2
least_threads Broadcast = 1
least_threads Buffer = 4
least_threads Limits = 1

-- the most threads of a load: as many as the seats that a mutex may have, without those of the threads that wake the others
abbrev pub most_threads : Load → ℕ
most_threads Lock = 4094
most_threads Mixed = 4094
most_threads PingPong = 2
most_threads Broadcast = 4094
most_threads Buffer = 4
most_threads Limits = 4093

-- the most turns of a thread
abbrev pub most_turns : Load → ℕ
most_turns Lock = 1000000000
most_turns Mixed = 1000000000
most_turns PingPong = 1000000000
most_turns Broadcast = 1000000000
most_turns Buffer = 800000
most_turns Limits = 1000000000

-- what keeps the load from being run by this number of threads, each in this number of turns
abbrev pub refusal_of : Load → ℕ → ℕ → Option OutOfRange
refusal_of load threads turns =
    if nat_lt threads (least_threads load) then Some OutOfRange.Threads
    else if nat_lt (most_threads load) threads then Some OutOfRange.Threads
    else if nat_lt turns 1 then Some OutOfRange.Turns
    else if nat_lt (most_turns load) turns then Some OutOfRange.Turns
    else None

-- how many seats the mutex of a run has
abbrev pub seats_of : Load → ℕ → ℕ
seats_of Lock threads = threads
seats_of Mixed threads = threads
seats_of PingPong threads = threads
seats_of Broadcast threads = threads + 1
seats_of Buffer threads = threads
seats_of Limits threads = threads + 2
