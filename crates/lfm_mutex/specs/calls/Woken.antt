-- What calls with a seat did that is in no trail: whom they woke, and whether they polled. The seats that were woken are those
-- to which the steps granted the mutex. Calls that may wait make polls, and of the others only `count_from` does.
use Rattle.std.specs.Prelude.{◌≡◌, ℕ, ◌+◌, List, ◌++◌}
use Rattle.lfm_mutex.specs.declared.seat.Seat.{Seat}
use Rattle.lfm_mutex.specs.calls.Sight.{sight}
use Rattle.lfm_mutex.specs.calls.WakeUps.{grants_of}

-- the seats that calls with this seat have woken, in order
abbrev pub woken_of : {T : Type 0} → Seat T → List ℕ
woken_of s = s.off_trail.woken

-- between the two nobody was woken, and no poll was made: all that was done is in the trail
abbrev pub WakesNobody : {T : Type 0} → Seat T → Seat T → Type 0
WakesNobody s t = t.off_trail ≡ s.off_trail

-- between the two exactly these seats were woken, in this order, and no poll was made
abbrev pub WakesThese : {T : Type 0} → List ℕ → Seat T → Seat T → Type 0
WakesThese seats s t = t.off_trail ≡ record s.off_trail { woken = woken_of s ++ seats }

-- between the two, exactly the seats were woken to which the steps granted the mutex, in the order of their grants, and no poll
-- was made
abbrev pub WokenAsGranted : {T : Type 0} → Seat T → Seat T → Type 0
WokenAsGranted s t = (new : List ℕ) × WakesThese new s t × (grants_of (sight t).trail ≡ grants_of (sight s).trail ++ new)

-- between the two one poll was made, and nobody was woken
abbrev pub PollsOnce : {T : Type 0} → Seat T → Seat T → Type 0
PollsOnce s t = t.off_trail ≡ record s.off_trail { polls = s.off_trail.polls + 1 }

-- between the two nobody was woken; polls may have been made
abbrev pub PollsAndWakesNobody : {T : Type 0} → Seat T → Seat T → Type 0
PollsAndWakesNobody s t = woken_of t ≡ woken_of s

-- between the two, exactly the seats were woken to which the steps granted the mutex, in the order of their grants; polls may
-- have been made
abbrev pub PollsAndWakesAsGranted : {T : Type 0} → Seat T → Seat T → Type 0
PollsAndWakesAsGranted s t = (new : List ℕ) × (woken_of t ≡ woken_of s ++ new) × (grants_of (sight t).trail ≡ grants_of (sight s).trail ++ new)
