-- What a worker has added so far.
use Rattle.std.specs.Prelude.{◌≡◌, ℕ}
use Rattle.lfm_mutex.specs.declared.mutex.Mutex.{Mutex}
use Rattle.lfm_mutex.specs.Belongs.{OfMutex}
use Rattle.example_counter.specs.declared.counter.Counter.{Counter}
use Rattle.example_counter.specs.declared.Worker.{Worker}

-- the worker has a seat of the mutex, and one part of the ledger with this amount
abbrev pub HasAdded : {L : Type 0} → Mutex (Counter L) → ℕ → Worker L → Type 0
HasAdded m n w = OfMutex w.seat m × (w.share.parts ≡ 1) × (w.share.amount ≡ n)
