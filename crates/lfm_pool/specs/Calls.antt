-- What the calls of a seat of a pool make of it, and what a seat keeps between two calls.
use Rattle.std.specs.Prelude.{◌≡◌, ◌≢◌, ◌⊎◌, ℕ, ◌+◌, List, [], ◌∷◌, ◌++◌, Option, Some, None, Result, Ok, Err}
use Rattle.lfm_model.specs.declared.answers.Asked.{Asked}
use Rattle.lfm_model.specs.declared.answers.How.{How}
use Rattle.lfm_model.specs.declared.answers.Locked.{Locked}
use Rattle.lfm_model.specs.declared.answers.Unlocked.{Unlocked}
use Rattle.lfm_model.specs.declared.refusals.Refusal.{Refusal}
use Rattle.lfm_words.specs.declared.pop_lists.Record.{Record}
use Rattle.lfm_pool.specs.declared.any_depth.Release.{Release}
use Rattle.lfm_pool.specs.declared.pool.Pool.{Pool}
use Rattle.lfm_pool.specs.declared.seat.PoolSeat.{PoolSeat}
use Rattle.lfm_pool.specs.declared.unlock.Released.{Released}
use Rattle.lfm_pool.specs.AnyDepth.{AsksAtAnyDepth, FindsNoStamp, IsAtRest, IsAwayIn, TriesAtAnyDepth, UnlocksAtAnyDepth}
use Rattle.lfm_pool.specs.Belongs.{SameSeat}
use Rattle.lfm_pool.specs.Counts.{CountsTakes, HasNoTake}
use Rattle.lfm_pool.specs.Depths.{HasDepthIn}
use Rattle.lfm_pool.specs.Receive.{ReceivedIn}
use Rattle.lfm_pool.specs.Seats.{state_of}
use Rattle.lfm_pool.specs.SeatWords.{Sleeps}
use Rattle.lfm_pool.specs.WakeUps.{seats_to_wake}

-- Between two calls

-- No call of the seat is open. It rests in every mutex of the pool, or sleeps in the one that it names and rests in all others.
-- A number for a post is left for each mutex that it holds, and for the one that it waits for while it sleeps.
pub record IsBetweenCalls (s : PoolSeat) (p : Pool) : Type 0 where
  pub awake : s.asleep_in ≡ None → IsAtRest s.table_seat p × CountsTakes s.takes 0 s.table_seat p
  pub sleeps : (m : ℕ) → s.asleep_in ≡ Some m → IsAwayIn s.table_seat p m × Sleeps (state_of s.table_seat m) × CountsTakes s.takes 1 s.table_seat p

-- both are the same seat, before and after a call
abbrev pub SamePoolSeat : PoolSeat → PoolSeat → Type 0
SamePoolSeat s t = SameSeat s.table_seat t.table_seat

-- the seat sleeps in some mutex
abbrev pub IsAsleep : PoolSeat → Type 0
IsAsleep s = (m : ℕ) × (s.asleep_in ≡ Some m)

-- between the two, the calls of the seat have woken nobody
abbrev pub WakesNobody : PoolSeat → PoolSeat → Type 0
WakesNobody s t = t.off_trail ≡ s.off_trail

-- From s to t the seat has woken these seats, in this order, and has done nothing else.
abbrev pub OnlyWakes : List ℕ → PoolSeat → PoolSeat → Type 0
OnlyWakes seats s t = t ≡ record s { off_trail = record s.off_trail { woken = s.off_trail.woken ++ seats } }

-- the seat was awake before a call and is awake after it, and the call has made this number of takes and has woken nobody
abbrev pub StaysAwake : ℕ → PoolSeat → PoolSeat → Type 0
StaysAwake takes s t = (s.asleep_in ≡ None) × (t.asleep_in ≡ None) × (t.takes ≡ s.takes + takes) × WakesNobody s t

-- The seat is awake and doesn't hold mutex m, and may make no take.
abbrev pub MayNotTake : PoolSeat → Pool → ℕ → Type 0
MayNotTake s p m = (s.asleep_in ≡ None) × HasDepthIn s.table_seat p m 0 × HasNoTake s.takes s.table_seat p

-- The calls

-- from s to t the seat has made a try_lock of mutex m, with this answer
abbrev pub Tries : Result Locked Refusal → PoolSeat → PoolSeat → Pool → ℕ → Type 0
Tries (Err Refusal.Asleep) s t p m = IsAsleep s × (t ≡ s)
Tries (Err Refusal.Spent) s t p m = HasNoTake s.takes s.table_seat p × StaysAwake 0 s t × TriesAtAnyDepth (Err Refusal.Spent) s.table_seat t.table_seat p m
Tries (Ok (Locked.Held how)) s t p m = StaysAwake 1 s t × TriesAtAnyDepth (Ok (Locked.Held how)) s.table_seat t.table_seat p m
Tries result s t p m = StaysAwake 0 s t × TriesAtAnyDepth result s.table_seat t.table_seat p m

-- From s to t the seat has made an ask of mutex m, with this answer and this record of the seat whose thread has to be woken.
abbrev pub Asks : Result Asked Refusal → Option Record → PoolSeat → PoolSeat → Pool → ℕ → Type 0
Asks (Err Refusal.Asleep) None s t p m = IsAsleep s × (t ≡ s)
Asks (Err Refusal.Spent) None s t p m =
    (HasNoTake s.takes s.table_seat p ⊎ FindsNoStamp s.table_seat t.table_seat m)
    × StaysAwake 0 s t × AsksAtAnyDepth (Err Refusal.Spent) None s.table_seat t.table_seat p m
Asks (Ok Asked.Asleep) granted s t p m =
    (s.asleep_in ≡ None) × (t.asleep_in ≡ Some m) × (t.takes ≡ s.takes + 1) × WakesNobody s t
    × AsksAtAnyDepth (Ok Asked.Asleep) granted s.table_seat t.table_seat p m
Asks (Ok (Asked.Held how)) granted s t p m = StaysAwake 1 s t × AsksAtAnyDepth (Ok (Asked.Held how)) granted s.table_seat t.table_seat p m
Asks result granted s t p m = StaysAwake 0 s t × AsksAtAnyDepth result granted s.table_seat t.table_seat p m

-- from s to t the seat has made an unlock of mutex m, with this answer
abbrev pub Unlocks : Result Release Refusal → PoolSeat → PoolSeat → Pool → ℕ → Type 0
Unlocks (Err Refusal.Asleep) s t p m = IsAsleep s × (t ≡ s)
Unlocks result s t p m = StaysAwake 0 s t × UnlocksAtAnyDepth result s.table_seat t.table_seat p m

-- from s to t the seat has made a receive of mutex m, with this answer
abbrev pub Receives : Result (Option How) Refusal → PoolSeat → PoolSeat → Pool → ℕ → Type 0
Receives (Err Refusal.NotWaiting) s t p m = (s.asleep_in ≢ Some m) × (t ≡ s)
Receives (Ok None) s t p m = (s.asleep_in ≡ Some m) × (t.asleep_in ≡ Some m) × (t.takes ≡ s.takes) × WakesNobody s t × ReceivedIn s.table_seat t.table_seat m None
Receives (Ok (Some how)) s t p m =
    (s.asleep_in ≡ Some m) × (t.asleep_in ≡ None) × (t.takes ≡ s.takes) × WakesNobody s t
    × ReceivedIn s.table_seat t.table_seat m (Some how) × HasDepthIn t.table_seat p m 1
Receives _ s t p m = ⊥

-- The calls that wake

-- From s to t the seat has made an ask of mutex m, with this answer. Then it has woken the seat to which it has granted the
-- mutex, if any, and nobody else.
abbrev pub AsksWaking : Result Asked Refusal → PoolSeat → PoolSeat → Pool → ℕ → Type 0
AsksWaking result s t p m = (granted : Option Record) × (u : PoolSeat) × Asks result granted s u p m × OnlyWakes (seats_to_wake granted) u t

-- From s to t the seat has made an unlock of mutex m, with this answer. Then it has woken the seat to which it has granted the
-- mutex, if any, and nobody else.
abbrev pub UnlocksWaking : Result Unlocked Refusal → PoolSeat → PoolSeat → Pool → ℕ → Type 0
UnlocksWaking (Err refusal) s t p m = Unlocks (Err refusal) s t p m
UnlocksWaking (Ok (Unlocked.Still depth)) s t p m = Unlocks (Ok (Release.Still depth)) s t p m
UnlocksWaking (Ok Unlocked.Free) s t p m = Unlocks (Ok (Release.Last Released.Free)) s t p m
UnlocksWaking (Ok (Unlocked.Granted next)) s t p m =
    (r : Record) × (u : PoolSeat) × (r.seat ≡ next) × Unlocks (Ok (Release.Last (Released.Granted r))) s u p m × OnlyWakes (next ∷ []) u t
UnlocksWaking (Ok Unlocked.Posted) s t p m = Unlocks (Ok (Release.Last Released.Posted)) s t p m
UnlocksWaking (Ok Unlocked.TakenOver) s t p m = Unlocks (Ok (Release.Last Released.TakenOver)) s t p m
