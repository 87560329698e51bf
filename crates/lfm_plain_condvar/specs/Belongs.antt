-- What belongs to a plain condvar, and which seats a seat has notified.
use Rattle.std.specs.Prelude.{◌≡◌, ◌≤◌, ⊤, ℕ, List, [], map, Option, Some, None, Result, Ok, Err}
use Rattle.atomic_table.specs.Seated.{TableId}
use Rattle.lfm_model.specs.declared.refusals.Refusal.{Refusal}
use Rattle.lfm_mutex.specs.declared.seat.Seat.{Seat}
use Rattle.lfm_mutex.specs.Belongs.{OfMutex}
use Rattle.lfm_mutex.specs.calls.Sight.{sight}
use Rattle.lfm_plain_condvar.specs.declared.condvar.PlainCondvar.{PlainCondvar}
use Rattle.lfm_plain_condvar.specs.declared.parkers.Parkers.{Parkers}
use Rattle.lfm_plain_condvar.specs.declared.parkers.Waker.{Waker}
use Rattle.lfm_plain_condvar.specs.declared.plain_seat.PlainSeat.{PlainSeat}
use Rattle.lfm_plain_condvar.specs.declared.waiters.Waiter.{Waiter}
use Rattle.lfm_plain_condvar.specs.declared.waiters.Waiters.{Waiters}
use Rattle.lfm_plain_condvar.specs.declared.owed.OwedWakeUp.{OwedWakeUp}
use Rattle.lfm_plain_condvar.specs.Holds.{SeatKept}

-- its parkers, and how many seats it has
abbrev pub parkers_of : PlainCondvar → TableId
parkers_of v = v.parkers.table.shared.table_id

abbrev pub seats_of : PlainCondvar → ℕ
seats_of v = v.parkers.seats

-- the seats that this seat has notified, in order
abbrev pub notified_by : PlainSeat → List ℕ
notified_by c = c.log.seat.me.0.parkers

-- the numbers of the seats of these waiters
abbrev pub numbers_of : List Waiter → List ℕ
numbers_of ws = map (λ (x : Waiter). x.waker.number) ws

-- from one to the other, the seat has notified nobody
abbrev pub NotifiesNobody : PlainSeat → PlainSeat → Type 0
NotifiesNobody c d = notified_by d ≡ notified_by c

-- the seat has the waker of its own parker
abbrev pub HasWaker : PlainSeat → Parkers → Type 0
HasWaker c p = (w : Waker) × (c.waker ≡ Some w) × (w.number ≡ (sight c.seat).number) × (w.seat.table_id ≡ p.table.shared.table_id)

-- the seat is one of this condvar, and its waker may be in the list
abbrev pub WaitsAt : PlainSeat → PlainCondvar → Type 0
WaitsAt c v = OfMutex c.seat v.inner × SeatKept (parkers_of v) (seats_of v) (sight c.seat) × (c.log.seat.table_id ≡ parkers_of v)

-- the seat is one of this condvar, and doesn't wait: it has the waker of its own parker
abbrev pub OfPlain : PlainSeat → PlainCondvar → Type 0
OfPlain c v = WaitsAt c v × HasWaker c v.parkers

-- the wake-up is owed to a waiter of this condvar
abbrev pub IsOwedBy : OwedWakeUp → PlainCondvar → Type 0
IsOwedBy r v = (r.waiter.waker.number ≤ seats_of v) × (r.waiter.waker.seat.table_id ≡ parkers_of v)

-- the wake-up, if there is one, is owed to a waiter of this condvar
abbrev pub OwedBy : Result (Option OwedWakeUp) Refusal → PlainCondvar → Type 0
OwedBy (Ok (Some r)) v = IsOwedBy r v
OwedBy (Ok None) v = ⊤
OwedBy (Err e) v = ⊤

-- a new plain seat around this seat of the inner mutex: it has its waker, has notified nobody, and has the credit of a new seat
abbrev pub IsNewSeat : PlainSeat → Seat Waiters → Parkers → Type 0
IsNewSeat c s p = (c.seat ≡ s) × HasWaker c p × (c.log.seat.table_id ≡ p.table.shared.table_id) × (notified_by c ≡ []) × (c.credit ≡ record { credit = 8; waits = 0 })

-- the seats of the inner mutex, of these plain seats
abbrev pub inner_seats : List PlainSeat → List (Seat Waiters)
inner_seats = map (λ (c : PlainSeat). c.seat)

-- both are the same condvar
abbrev pub SamePlain : PlainCondvar → PlainCondvar → Type 0
SamePlain u v = (v.inner ≡ u.inner) × (v.parkers ≡ u.parkers)
