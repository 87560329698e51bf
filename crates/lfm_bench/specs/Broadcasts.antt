-- The number under the mutex while threads are woken by broadcasts. Each thread that acquires the mutex and goes on adds 1.
use Rattle.std.specs.Prelude.{◌+◌, ◌*◌, ◌%◌, ◌^◌, ℕ}
use Rattle.lfm_bench.specs.declared.workloads.broadcast.Load.{Load}

-- the number when this broadcast is made: the caller has added 1 for it and for each broadcast before, and each thread 1 at its
-- start and 1 for each broadcast before
abbrev pub made : Load → ℕ → ℕ
made load broadcast = broadcast * ((load.threads + 1) % 2 ^ 64) % 2 ^ 64

-- the number when all threads have held the mutex since then
abbrev pub ended : Load → ℕ → ℕ
ended load broadcast = (made load broadcast + load.threads) % 2 ^ 64
