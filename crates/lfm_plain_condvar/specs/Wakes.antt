-- How the wakes end. The plain seat is c before and d after; its list has the limits `own`, and it tries at most `tries`
-- times before it queues for the list.
use Rattle.std.specs.Prelude.{◌≡◌, ℕ, ◌≤◌, List, [], ◌∷◌, ◌++◌, Option, Some, None, Result, Ok, Err, length}
use Rattle.lfm_model.specs.declared.refusals.Refusal.{Refusal}
use Rattle.lfm_protocol.specs.declared.limits.Limits.{Limits}
use Rattle.lfm_mutex.specs.calls.Sight.{sight}
use Rattle.lfm_plain_condvar.specs.declared.plain_seat.PlainSeat.{PlainSeat}
use Rattle.lfm_plain_condvar.specs.declared.waiters.Waiter.{Waiter}
use Rattle.lfm_plain_condvar.specs.declared.waiters.Waiters.{Waiters}
use Rattle.lfm_plain_condvar.specs.declared.owed.OwedWakeUp.{OwedWakeUp}
use Rattle.lfm_plain_condvar.specs.Belongs.{NotifiesNobody, notified_by, numbers_of}
use Rattle.lfm_plain_condvar.specs.Keeping.{TakesFirst}
use Rattle.lfm_plain_condvar.specs.Waits.{OneHold}

-- in one hold these were taken out of the list, which were the oldest, in this order
abbrev pub TakesInOneHold : Limits → ℕ → PlainSeat → PlainSeat → List Waiter → Type 0
TakesInOneHold own tries c d gone = (v : Waiters) × (w : Waiters) × TakesFirst gone v w × OneHold own tries (sight c.seat) (sight d.seat) v w

-- one hold that found the list empty
abbrev pub FindsNone : Limits → ℕ → PlainSeat → PlainSeat → Type 0
FindsNone own tries c d = (v : Waiters) × (v.list.items ≡ []) × OneHold own tries (sight c.seat) (sight d.seat) v v

-- the seat has notified exactly these, in this order
abbrev pub NotifiesThese : List Waiter → PlainSeat → PlainSeat → Type 0
NotifiesThese gone c d = notified_by d ≡ notified_by c ++ numbers_of gone

abbrev pub WakeRefused : Limits → PlainSeat → PlainSeat → Refusal → Type 0
WakeRefused own c d Refusal.Spent = (own.budget ≤ (sight c.seat).takes) × (d ≡ c)
WakeRefused own c d r = ⊥

-- the oldest was taken out of the list, and the wake-up that is owed is its own
abbrev pub WakeLaterEnds : Limits → ℕ → PlainSeat → PlainSeat → Result (Option OwedWakeUp) Refusal → Type 0
WakeLaterEnds own tries c d (Ok None) = FindsNone own tries c d × NotifiesNobody c d
WakeLaterEnds own tries c d (Ok (Some r)) = TakesInOneHold own tries c d (r.waiter ∷ []) × NotifiesNobody c d
WakeLaterEnds own tries c d (Err r) = WakeRefused own c d r

-- the oldest was taken out of the list, and notified
abbrev pub WakeOneEnds : Limits → ℕ → PlainSeat → PlainSeat → Result (Option ℕ) Refusal → Type 0
WakeOneEnds own tries c d (Ok None) = FindsNone own tries c d × NotifiesNobody c d
WakeOneEnds own tries c d (Ok (Some ticket)) = (x : Waiter) × (x.ticket ≡ ticket) × TakesInOneHold own tries c d (x ∷ []) × NotifiesThese (x ∷ []) c d
WakeOneEnds own tries c d (Err r) = WakeRefused own c d r

-- the same for wake_one_with_number, which also returns the number of the plain seat that was woken
abbrev pub WakeOneWithNumberEnds : Limits → ℕ → PlainSeat → PlainSeat → Result (Option (ℕ × ℕ)) Refusal → Type 0
WakeOneWithNumberEnds own tries c d (Ok None) = FindsNone own tries c d × NotifiesNobody c d
WakeOneWithNumberEnds own tries c d (Ok (Some p)) =
    (x : Waiter) × (x.waker.number ≡ p.0) × (x.ticket ≡ p.1) × TakesInOneHold own tries c d (x ∷ []) × NotifiesThese (x ∷ []) c d
WakeOneWithNumberEnds own tries c d (Err r) = WakeRefused own c d r

-- the ticket that a wake returned, without the number of the seat
abbrev pub ticket_in : Result (Option (ℕ × ℕ)) Refusal → Result (Option ℕ) Refusal
ticket_in (Ok None) = Ok None
ticket_in (Ok (Some p)) = Ok (Some p.1)
ticket_in (Err r) = Err r

-- all were taken out of the list in one hold, and notified, the oldest first
abbrev pub WakeAllEnds : Limits → ℕ → PlainSeat → PlainSeat → Result ℕ Refusal → Type 0
WakeAllEnds own tries c d (Ok count) =
    (v : Waiters) × (w : Waiters) × (count ≡ length v.list.items) × TakesFirst v.list.items v w × NotifiesThese v.list.items c d × OneHold own tries (sight c.seat) (sight d.seat) v w
WakeAllEnds own tries c d (Err r) = WakeRefused own c d r
