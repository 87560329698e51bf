-- What the contracts of calls say of a seat in one mutex of its pool.
use Rattle.std.specs.Prelude.{◌≡◌, ℕ, List}
use Rattle.lfm_words.specs.declared.pop_lists.Record.{Record}
use Rattle.lfm_pool.specs.declared.pool.Pool.{Pool}
use Rattle.lfm_pool.specs.declared.pool.TableSeat.{TableSeat}
use Rattle.lfm_pool.specs.declared.view.Note.{Note}
use Rattle.lfm_pool.specs.FastPaths.{Enters, FindsTaken, HoldsOnce, KnowsMoreOf, Leaves, MayTry, Serves}
use Rattle.lfm_protocol.specs.declared.answers.Call.TheVariants.{Receive}
use Rattle.lfm_protocol.specs.declared.seats.SeatState.{SeatState}
use Rattle.lfm_pool.specs.Chain.{rested}
use Rattle.lfm_pool.specs.Steps.{RestsElsewhere, Sits, StepsIn, begun_in, state_in}
use Rattle.lfm_pool.specs.Tables.{note, part}

-- the seat rests in every mutex but m, and may rest in m too
abbrev pub RestsInOthers : TableSeat → ℕ → Type 0
RestsInOthers s m = RestsElsewhere s.place.me.0 m

-- the seat rests in mutex m without a hold, and has a take left there
abbrev pub MayTryIn : TableSeat → Pool → ℕ → Type 0
MayTryIn s p m = MayTry s.number s.place.id p.limits (part s.place.me.0 m)

-- the seat rests in mutex m and holds it once
abbrev pub HoldsOnceIn : TableSeat → Pool → ℕ → Type 0
HoldsOnceIn s p m = HoldsOnce s.number s.place.id p.limits (part s.place.me.0 m) (note s.place.me.0 m)

-- from s to t the seat has acquired mutex m, which was free, by the two steps of a try_lock
abbrev pub EntersIn : TableSeat → TableSeat → Pool → ℕ → Type 0
EntersIn s t p m =
    KnowsMoreOf m (λ w n. Enters s.number (part s.place.me.0 m) w × HoldsOnce s.number s.place.id p.limits w n) s.place.me t.place.me

-- from s to t the seat has begun a try_lock of mutex m, which is taken: its first step found the count n
abbrev pub FindsTakenIn : TableSeat → TableSeat → Pool → ℕ → ℕ → Type 0
FindsTakenIn s t p m n =
    KnowsMoreOf m
    (λ w k. FindsTaken n (part s.place.me.0 m) w × Sits s.number s.place.id p.limits w.state w × (k ≡ note s.place.me.0 m))
    s.place.me t.place.me

-- from s to t the seat has released mutex m, which is free then, by the two steps of an unlock
abbrev pub LeavesIn : TableSeat → TableSeat → Pool → ℕ → Type 0
LeavesIn s t p m =
    KnowsMoreOf m (λ w n. Leaves (part s.place.me.0 m) w × Sits s.number s.place.id p.limits w.state w) s.place.me t.place.me

-- from s to t the seat has released mutex m, which others want: the call is open, and the subtraction found the count n
abbrev pub ServesIn : TableSeat → TableSeat → Pool → ℕ → ℕ → Type 0
ServesIn s t p m n =
    KnowsMoreOf m
    (λ w k. Serves s.number n (part s.place.me.0 m) w × Sits s.number s.place.id p.limits w.state w × (k ≡ rested w.popped))
    s.place.me t.place.me

-- the seat's data in mutex m
abbrev pub state_of : TableSeat → ℕ → SeatState
state_of s m = state_in s.place.me.0 m

-- its note of mutex m, and the popped records that it knows of there
abbrev pub note_of : TableSeat → ℕ → Note
note_of s m = note s.place.me.0 m

abbrev pub popped_of : TableSeat → ℕ → List Record
popped_of s m = (part s.place.me.0 m).popped

-- the seat is between two steps in mutex m
abbrev pub SitsIn : TableSeat → Pool → ℕ → Type 0
SitsIn s p m = Sits s.number s.place.id p.limits (state_of s m) (part s.place.me.0 m)

-- from s to t the seat has made the next step of its call in mutex m, which found or stored n
abbrev pub MovesIn : TableSeat → TableSeat → Pool → ℕ → ℕ → Type 0
MovesIn s t p m n = StepsIn s.number s.place.id m p.limits (state_of s m) s.place.me n t.place.me

-- from s to t the seat has begun a receive in mutex m and made its first step, which found n
abbrev pub ReceivesIn : TableSeat → TableSeat → Pool → ℕ → ℕ → Type 0
ReceivesIn s t p m n = StepsIn s.number s.place.id m p.limits (begun_in s.place.me.0 m p.limits Receive) s.place.me n t.place.me
