-- What belongs to a mutex, and a seat's own state. The names by which contracts speak of a mutex and its seats.
use Rattle.std.specs.Prelude.{◌≡◌, ℕ, ◌+◌}
use Rattle.lfm_protocol.specs.declared.limits.Limits.{Limits}
use Rattle.lfm_protocol.specs.declared.seats.SeatState.{SeatState}
use Rattle.lfm_mutex.specs.declared.seat.Seat.{Seat}
use Rattle.lfm_mutex.specs.declared.mutex.Mutex.{Mutex}

-- how many seats the mutex has, and how many takes each of them may make
abbrev pub limits_of : {T : Type 0} → Mutex T → Limits
limits_of m = m.limits

-- the seat is one of this mutex
abbrev pub OfMutex : {T : Type 0} → Seat T → Mutex T → Type 0
OfMutex s m = (s.table_seat.place.table_id ≡ m.table.table_id) × (s.table_seat.limits ≡ m.limits)

-- both are seats of one mutex
abbrev pub Beside : {T : Type 0} → Seat T → Seat T → Type 0
Beside s t = (t.table_seat.place.table_id ≡ s.table_seat.place.table_id) × (t.table_seat.limits ≡ s.table_seat.limits)

-- how many takes the seat may make
abbrev pub budget_of : {T : Type 0} → Seat T → ℕ
budget_of s = s.table_seat.limits.budget

-- the seat's own state, as in the core
abbrev pub state_of : {T : Type 0} → Seat T → SeatState
state_of s = s.state

-- how often a seat tries at most before it queues: once for each spin and each nap of the pace of the mutex
abbrev pub tries_of : {T : Type 0} → Mutex T → ℕ
tries_of m = m.pace.spins + m.pace.naps
