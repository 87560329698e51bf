-- When a seat polls before its thread parks, and what it does behind its waker.
use Rattle.std.specs.Prelude.{◌≡◌, ◌⊎◌, ℕ, ◌+◌, ◌/◌, ◌%◌, ◌^◌, ◌<◌, ◌≤◌, Bool, false, if◌then◌else◌}
use Rattle.lfm_plain_condvar.specs.declared.polls.BehindWaker.{BehindWaker}
use Rattle.lfm_plain_condvar.specs.declared.polls.PollCredit.{PollCredit}

-- the seat has credit, or this is one of 32 waits
abbrev pub MayPoll : PollCredit → Type 0
MayPoll c = 0 < c.credit ⊎ (c.waits % 32 ≡ 0)

-- the credit with one more wait that has asked whether it may poll
abbrev pub with_wait : PollCredit → PollCredit
with_wait c = record c { waits = (c.waits + 1) % 2 ^ 32 }

-- The credit of a seat goes from c to d by a wait that makes at most this number of polls, and tells whether one of them found
-- that the seat was notified. It makes none if that number is 0, or if the credit doesn't allow it. Otherwise the credit is full
-- if the seat was notified, and else it is halved.
abbrev pub PollsByCredit : ℕ → Bool → PollCredit → PollCredit → Type 0
PollsByCredit polls notified c d =
    ((polls ≡ 0) × (notified ≡ false) × (d ≡ c))
    ⊎ ((0 < polls) × (MayPoll (with_wait c) → ⊥) × (notified ≡ false) × (d ≡ with_wait c))
    ⊎ ((0 < polls) × MayPoll (with_wait c) × (d ≡ record (with_wait c) { credit = (if notified then 16 else c.credit / 2) }))

-- what a seat with this credit does behind its waker, after a wait that began behind this number of waiters
abbrev pub ChoosesBehindWaker : ℕ → ℕ → BehindWaker → Type 0
ChoosesBehindWaker ahead credit BehindWaker.Barges = 0 < ahead ⊎ (16 ≤ credit)
ChoosesBehindWaker ahead credit BehindWaker.Yields = (ahead ≡ 0) × (0 < credit) × (credit < 16)
ChoosesBehindWaker ahead credit BehindWaker.Queues = (ahead ≡ 0) × (credit ≡ 0)
