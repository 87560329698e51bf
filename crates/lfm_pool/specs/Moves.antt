-- Several steps of a seat in one mutex of its pool, one after another, and what the seat needs for each of them.
use Rattle.std.specs.Prelude.{◌≡◌, ⊤, ℕ, ◌+◌, ◌≤◌, ◌++◌, List, length}
use Rattle.lfm_protocol.specs.declared.answers.Call.{Call}
use Rattle.lfm_protocol.specs.declared.seats.SeatState.{SeatState}
use Rattle.lfm_table.specs.declared.seat_view.Seen.{Seen}
use Rattle.lfm_table.specs.declared.seat_view.View.{View}
use Rattle.lfm_table.specs.Actions.{RunGoesOn}
use Rattle.lfm_pool.specs.declared.pool.Pool.{Pool}
use Rattle.lfm_pool.specs.declared.pool.TableSeat.{TableSeat}
use Rattle.lfm_pool.specs.Belongs.{IsMutex, OfPool}
use Rattle.lfm_pool.specs.Chain.{note_since}
use Rattle.lfm_pool.specs.FastPaths.{KnowsMoreOf}
use Rattle.lfm_pool.specs.Seats.{RestsInOthers, SitsIn, note_of}
use Rattle.lfm_pool.specs.Steps.{StepsIn, begun_at, begun_in}
use Rattle.lfm_pool.specs.Tables.{part}

-- The seat may make a step in mutex m: it is a seat of the pool and between two steps there, and it rests in all others.
pub record MayStepIn (s : TableSeat) (p : Pool) (m : ℕ) : Type 0 where
  pub belongs : OfPool s p
  pub mutex : IsMutex m p
  pub sits : SitsIn s p m
  pub elsewhere : RestsInOthers s m

-- the seat has made exactly these steps, and its data in the mutex are x now
pub record Made (new : List Seen) (x : SeatState) (v w : View ⊤) : Type 0 where
  pub trail : w.trail ≡ v.trail ++ new
  pub state : w.state ≡ x
  pub run : RunGoesOn v w

-- From s to t the seat has made exactly these steps in mutex m. If it carries the mutex now, or holds it, all popped records
-- are in the chain and the carried word names the oldest; else its note is as it was.
abbrev pub MakesIn : TableSeat → TableSeat → ℕ → List Seen → SeatState → Type 0
MakesIn s t m new x =
    KnowsMoreOf m (λ w k. Made new x (part s.place.me.0 m) w × (k ≡ note_since w (note_of s m))) s.place.me t.place.me

-- from s to t the seat has begun this call in mutex m and made its first step, which found or stored n
abbrev pub StartsIn : TableSeat → TableSeat → Pool → ℕ → Call → ℕ → Type 0
StartsIn s t p m call n = StepsIn s.number s.place.id m p.limits (begun_in s.place.me.0 m p.limits call) s.place.me n t.place.me

-- the same, if the seat held the mutex this many times when it began the call
abbrev pub StartsAtIn : TableSeat → TableSeat → Pool → ℕ → ℕ → Call → ℕ → Type 0
StartsAtIn s t p m depth call n =
    StepsIn s.number s.place.id m p.limits (begun_at s.place.me.0 m depth p.limits call) s.place.me n t.place.me

-- from s to t the seat has made at most this number of steps in mutex m
abbrev pub MakesAtMostIn : ℕ → TableSeat → TableSeat → ℕ → Type 0
MakesAtMostIn k s t m = length (part t.place.me.0 m).trail ≤ length (part s.place.me.0 m).trail + k
