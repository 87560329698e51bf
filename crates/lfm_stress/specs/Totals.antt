-- What a run must leave: how many additions were counted, or items taken out of the buffer; how many threads were woken; and
-- the number, or the sum of the items.
use Rattle.std.specs.Prelude.{ℕ, ◌+◌, ◌*◌, ◌/◌, Bool, nat_eq, nat_le, ◌&&◌}
use Rattle.lfm_stress.specs.declared.plan.Load.{Load}
use Rattle.lfm_stress.specs.declared.plan.Load.TheVariants.{Lock, Mixed, PingPong, Broadcast, Buffer, Limits}
use Rattle.lfm_stress.specs.declared.sums.Sums.{Sums}

-- How many additions this number of threads make, each in this number of turns. In `broadcast` each waiter adds 1 as it comes
-- and 1 once it was woken, and the broadcaster adds 1. In `buffer` it is how many items are taken out. In `limits` nobody adds.
abbrev pub additions_of : Load → ℕ → ℕ → ℕ
additions_of Lock threads turns = threads * turns
additions_of Mixed threads turns = threads * turns
additions_of PingPong threads turns = threads * turns
additions_of Broadcast threads turns = (threads * 2 + 1) * turns
additions_of Buffer threads turns = turns
additions_of Limits threads turns = 0

-- How many of them must be made at least. In `mixed` these are the additions of the turns that lock, and that of the first try
-- of all, which finds the mutex free. In another load these are all.
abbrev pub least_of : Load → ℕ → ℕ → ℕ
least_of Lock threads turns = additions_of Lock threads turns
least_of Mixed threads turns = threads * (turns / 2) + 1
least_of PingPong threads turns = additions_of PingPong threads turns
least_of Broadcast threads turns = additions_of Broadcast threads turns
least_of Buffer threads turns = additions_of Buffer threads turns
least_of Limits threads turns = additions_of Limits threads turns

-- how many threads are woken in broadcasts
abbrev pub woken_of : Load → ℕ → ℕ → ℕ
woken_of Lock threads turns = 0
woken_of Mixed threads turns = 0
woken_of PingPong threads turns = 0
woken_of Broadcast threads turns = threads * turns
woken_of Buffer threads turns = 0
woken_of Limits threads turns = 0

-- the number after this number of additions, or the sum of this number of items, which are 1, 2, 3 and so on
abbrev pub number_of : Load → ℕ → ℕ
number_of Lock made = made
number_of Mixed made = made
number_of PingPong made = made
number_of Broadcast made = made
number_of Buffer made = made * (made + 1) / 2
number_of Limits made = made

-- Nothing is lost: as many additions were counted as there must be, each waiter was woken each time, and the number is that of
-- the additions.
abbrev pub is_exact : Load → ℕ → ℕ → Sums → Bool
is_exact load threads turns sums =
    nat_le (least_of load threads turns) sums.made
    && nat_le sums.made (additions_of load threads turns)
    && nat_eq sums.woken (woken_of load threads turns)
    && nat_eq sums.number (number_of load sums.made)
