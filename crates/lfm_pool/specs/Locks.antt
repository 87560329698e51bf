-- What the calls that wait for a mutex make of a seat of a pool.
use Rattle.std.specs.Prelude.{◌≡◌, ◌≢◌, ◌⊎◌, ℕ, zero, suc, ◌<◌, ◌≤◌, ◌-◌, Some, None, Result, Ok, Err}
use Rattle.lfm_model.specs.declared.answers.Asked.{Asked}
use Rattle.lfm_model.specs.declared.answers.How.{How}
use Rattle.lfm_model.specs.declared.answers.Locked.{Locked}
use Rattle.lfm_model.specs.declared.refusals.Refusal.{Refusal}
use Rattle.lfm_pool.specs.declared.pool.Pool.{Pool}
use Rattle.lfm_pool.specs.declared.seat.PoolSeat.{PoolSeat}
use Rattle.lfm_pool.specs.Calls.{AsksWaking, Receives, Tries}

-- from s to t the seat, which sleeps in mutex m, has made this number of receives there, and none of them found a grant
abbrev pub FindsNothing : ℕ → PoolSeat → PoolSeat → Pool → ℕ → Type 0
FindsNothing zero s t p m = t ≡ s
FindsNothing (suc k) s t p m = (u : PoolSeat) × FindsNothing k s u p m × Receives (Ok None) u t p m

-- From s to t the seat has waited for its grant of mutex m, with this answer: receives that found no grant, and then one that
-- did.
abbrev pub Awaits : Result How Refusal → PoolSeat → PoolSeat → Pool → ℕ → Type 0
Awaits (Ok how) s t p m = (k : ℕ) × (u : PoolSeat) × FindsNothing k s u p m × Receives (Ok (Some how)) u t p m
Awaits (Err refusal) s t p m = Receives (Err refusal) s t p m

-- From s to t the seat has made a lock of mutex m, with this answer: an ask, and if that put the seat to sleep, receives
-- until it was granted the mutex.
abbrev pub Locks : Result Locked Refusal → PoolSeat → PoolSeat → Pool → ℕ → Type 0
Locks (Ok (Locked.Held how)) s t p m =
    AsksWaking (Ok (Asked.Held how)) s t p m ⊎ ((u : PoolSeat) × AsksWaking (Ok Asked.Asleep) s u p m × Awaits (Ok how) u t p m)
Locks (Ok (Locked.Again depth)) s t p m = AsksWaking (Ok (Asked.Again depth)) s t p m
Locks (Err refusal) s t p m = AsksWaking (Err refusal) s t p m

-- from s to t the seat has made this number of try_locks of mutex m, each of which was refused as Busy
abbrev pub FailsTries : ℕ → PoolSeat → PoolSeat → Pool → ℕ → Type 0
FailsTries zero s t p m = t ≡ s
FailsTries (suc k) s t p m = (u : PoolSeat) × FailsTries k s u p m × Tries (Err Refusal.Busy) u t p m

-- from s to t the seat has made a try of mutex m with this answer, or none, and then the answer is Busy
abbrev pub MayTry : Result Locked Refusal → PoolSeat → PoolSeat → Pool → ℕ → Type 0
MayTry result s t p m = ((result ≡ Err Refusal.Busy) × (t ≡ s)) ⊎ Tries result s t p m

-- From s to t the seat has made at most n tries of mutex m. This is the answer of the last one: Busy if all have failed, also if
-- there was none.
abbrev pub TriesUpTo : ℕ → Result Locked Refusal → PoolSeat → PoolSeat → Pool → ℕ → Type 0
TriesUpTo n result s t p m =
    ((result ≡ Err Refusal.Busy) × ((k : ℕ) × (k ≤ n) × FailsTries k s t p m))
    ⊎ ((result ≢ Err Refusal.Busy) × ((k : ℕ) × (u : PoolSeat) × (k < n) × FailsTries k s u p m × Tries result u t p m))

-- From s to t the seat has made at most n tries of mutex m, and a lock if all of them have failed, with this answer.
abbrev pub BargesOn : ℕ → Result Locked Refusal → PoolSeat → PoolSeat → Pool → ℕ → Type 0
BargesOn n result s t p m =
    (k : ℕ) × (u : PoolSeat) × FailsTries k s u p m
    × (((k < n) × Tries result u t p m × (result ≢ Err Refusal.Busy)) ⊎ ((k ≤ n) × Locks result u t p m))

-- From s to t the seat has made a lock_barging of mutex m, with at most n tries and this answer: a try with this answer, which is
-- not Busy; or a try that failed, then at most n - 1 more, and a lock if all of them have failed.
abbrev pub Barges : ℕ → Result Locked Refusal → PoolSeat → PoolSeat → Pool → ℕ → Type 0
Barges n result s t p m =
    (Tries result s t p m × (result ≢ Err Refusal.Busy))
    ⊎ ((u : PoolSeat) × Tries (Err Refusal.Busy) s u p m × BargesOn (n - 1) result u t p m)
