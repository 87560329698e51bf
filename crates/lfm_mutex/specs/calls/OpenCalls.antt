-- How an open call of a seat of a mutex has gone on: what the steps add up to, what they cost, and what they keep.
use Rattle.std.specs.Prelude.{◌≡◌, ◌+◌, ◌≤◌, ℕ, Option, length}
use Rattle.lfm_protocol.specs.declared.answers.Turn.{Turn}
use Rattle.lfm_protocol.specs.declared.points.Point.TheVariants.{ReleaseOwnerStore}
use Rattle.lfm_protocol.specs.declared.points.Releaser.{Releaser}
use Rattle.lfm_protocol.specs.Points.{kind}
use Rattle.lfm_table.specs.declared.table_seat.TableSeat.{TableSeat}
use Rattle.lfm_table.specs.FastPath.{KeepsNumberAndLimits}
use Rattle.lfm_table.specs.Rule.{value_in, last_hold}
use Rattle.lfm_table.specs.Steps.{Event, MayBeLeft, StepLeadsTo}
use Rattle.lfm_mutex.specs.declared.seat.Seat.{Seat}
use Rattle.lfm_mutex.specs.declared.mutex.Mutex.{Mutex}
use Rattle.lfm_mutex.specs.calls.Due.{due}
use Rattle.lfm_mutex.specs.calls.FailedPushes.{Spends}
use Rattle.lfm_mutex.specs.calls.FastPath.{Course}
use Rattle.lfm_mutex.specs.calls.Runs.{weight}
use Rattle.lfm_mutex.specs.calls.WakeUps.{Wakes}
use Rattle.lfm_mutex.specs.calls.Woken.{WakesNobody}

-- the seat is at the table of this mutex
abbrev pub AtTableOf : {T : Type 0} → Seat T → Mutex T → Type 0
AtTableOf s m = s.table_seat.place.table_id ≡ m.table.table_id

-- nothing has changed in the table or in hand
abbrev pub KeepsTableSeat : {T : Type 0} → TableSeat T → TableSeat T → Type 0
KeepsTableSeat s t = (t.place ≡ s.place) × (t.number ≡ s.number) × (t.limits ≡ s.limits) × (t.moving ≡ s.moving)

-- if the next step of the seat ends its hold, the value that it has in hand may be left
abbrev pub MayMakeNext : {T : Type 0} → (ℕ → T → T → Type 0) → (T → ℕ → Type 0) → Seat T → Type 0
MayMakeNext follows suits s = (r : Releaser) → s.state.point ≡ ReleaseOwnerStore r → MayBeLeft follows suits s.table_seat.moving s.table_seat.place.me.0

-- the one step that made s to t is an event of the core, with this turn
abbrev pub MakesEvent : {T : Type 0} → (ℕ → T → T → Type 0) → (T → ℕ → Type 0) → Seat T → Turn → Seat T → Type 0
MakesEvent follows suits s turn t = Event follows suits s.state s.table_seat.moving s.table_seat.place.me.0 turn t.state t.table_seat.moving t.table_seat.place.me.0

-- the seat s has made the step at its point, and is now t; without an open call nothing changes
abbrev pub MakesNext : {T : Type 0} → (ℕ → T → T → Type 0) → (T → ℕ → Type 0) → Seat T → Turn → Seat T → Type 0
MakesNext follows suits s turn t =
    StepLeadsTo (kind s.state.point) follows suits s.state s.table_seat.moving s.table_seat.place.me turn t.state t.table_seat.moving t.table_seat.place.me

-- the hold that t has ended last is the one of s: it left the value that s has in hand
abbrev pub EndsHold : {T : Type 0} → Seat T → Seat T → Type 0
EndsHold s t =
    last_hold t.table_seat.place.me.0 ≡ (value_in s.table_seat.moving, s.table_seat.place.me.0.found, s.table_seat.place.me.0.limits, s.table_seat.place.me.0.holds_ended + 1)

-- the steps that made s to t have left the seat at its table, with its number and its limits, and have woken no seat
pub record KeepsSeat {T : Type 0} (s t : Seat T) : Type 0 where
  pub table : t.table_seat.place.table_id ≡ s.table_seat.place.table_id
  pub same : KeepsNumberAndLimits s.table_seat t.table_seat
  pub woken : WakesNobody s t

-- the steps that made s to t came to this turn
abbrev pub StepsLeadTo : {T : Type 0} → (ℕ → T → T → Type 0) → (T → ℕ → Type 0) → Seat T → Turn → Seat T → Type 0
StepsLeadTo follows suits s turn t =
    Course follows suits s.table_seat.number s.state s.table_seat.moving s.table_seat.place.me.0 turn t.state t.table_seat.moving t.table_seat.place.me.0

-- these steps were not more than were due at the point of s, and two more for each failed push
abbrev pub WithinDue : {T : Type 0} → Seat T → Seat T → Type 0
WithinDue s t = Spends (due s.table_seat.limits.seats (length s.table_seat.place.me.0.popped) s.state.point) 0 s.table_seat.place.me.0.trail t.table_seat.place.me.0.trail

-- these steps were not more than the weight of the point of s
abbrev pub WithinWeight : {T : Type 0} → Seat T → Seat T → Type 0
WithinWeight s t = length t.table_seat.place.me.0.trail ≤ length s.table_seat.place.me.0.trail + weight s.table_seat.limits.seats (length s.table_seat.place.me.0.popped) s.state.point

-- this wake-up is that of the seat to which these steps granted the mutex, if any
abbrev pub OwesWakeUp : {T : Type 0} → Seat T → Option ℕ → Seat T → Type 0
OwesWakeUp s wake_up t = Wakes s.table_seat.limits.seats wake_up s.table_seat.place.me.0.trail t.table_seat.place.me.0.trail

-- The open call of s has ended with this turn, and the seat is now t. If the steps granted another seat the mutex, its wake-up is
-- this one.
pub record FinishesAs {T : Type 0} (follows : ℕ → T → T → Type 0) (suits : T → ℕ → Type 0) (s : Seat T) (turn : Turn) (wake_up : Option ℕ) (t : Seat T) : Type 0 where
  pub kept : KeepsSeat s t
  pub made : StepsLeadTo follows suits s turn t
  pub wakes : OwesWakeUp s wake_up t
