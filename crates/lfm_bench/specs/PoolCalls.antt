-- What the calls of a thread at mutexes of a pool make of its seat.
use Rattle.std.specs.Prelude.{◌≡◌, ℕ, zero, suc, Ok, Err}
use Rattle.lfm_model.specs.declared.answers.How.{How}
use Rattle.lfm_model.specs.declared.answers.Locked.{Locked}
use Rattle.lfm_model.specs.declared.answers.Unlocked.{Unlocked}
use Rattle.lfm_model.specs.declared.refusals.Refusal.{Refusal}
use Rattle.lfm_pool.specs.declared.pool.Pool.{Pool}
use Rattle.lfm_pool.specs.declared.seat.PoolSeat.{PoolSeat}
use Rattle.lfm_pool.specs.Calls.{Tries, UnlocksWaking}
use Rattle.lfm_pool.specs.Locks.{Locks}

-- from s to t the seat has acquired mutex m by a lock, and did not hold it before
abbrev pub Acquires : PoolSeat → PoolSeat → Pool → ℕ → Type 0
Acquires s t p m = (how : How) × Locks (Ok (Locked.Held how)) s t p m

-- from s to t the seat, which held mutex m, has locked it once more
abbrev pub Deepens : PoolSeat → PoolSeat → Pool → ℕ → Type 0
Deepens s t p m = (depth : ℕ) × Locks (Ok (Locked.Again depth)) s t p m

-- from s to t the seat has given up its last hold of mutex m, which no other seat wanted
abbrev pub Frees : PoolSeat → PoolSeat → Pool → ℕ → Type 0
Frees s t p m = UnlocksWaking (Ok Unlocked.Free) s t p m

-- from s to t the seat has given up one hold of mutex m, and still holds it
abbrev pub Lessens : PoolSeat → PoolSeat → Pool → ℕ → Type 0
Lessens s t p m = (depth : ℕ) × UnlocksWaking (Ok (Unlocked.Still depth)) s t p m

-- from s to t the seat has locked mutex m, which it did not hold, and has freed it
abbrev pub MakesPair : PoolSeat → PoolSeat → Pool → ℕ → Type 0
MakesPair s t p m = (u : PoolSeat) × Acquires s u p m × Frees u t p m

-- from s to t the seat has locked mutex m once more, and has unlocked it once
abbrev pub MakesPairWithin : PoolSeat → PoolSeat → Pool → ℕ → Type 0
MakesPairWithin s t p m = (u : PoolSeat) × Deepens s u p m × Lessens u t p m

-- from s to t the seat has tried to lock mutex m, and was refused since another seat held it
abbrev pub IsRefused : PoolSeat → PoolSeat → Pool → ℕ → Type 0
IsRefused s t p m = Tries (Err Refusal.Busy) s t p m

-- from s to t the seat has made this number of calls, each at some mutex, and each of them did what it should
abbrev pub MakesOften : (PoolSeat → PoolSeat → Pool → ℕ → Type 0) → ℕ → PoolSeat → PoolSeat → Pool → Type 0
MakesOften made zero s t p = t ≡ s
MakesOften made (suc k) s t p = (u : PoolSeat) × (m : ℕ) × MakesOften made k s u p × made u t p m
