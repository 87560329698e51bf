-- A seat between the steps of a fast path: its plain data are as the steps leave them, wherever they are stored.
use Rattle.std.specs.Prelude.{◌≡◌, ℕ, Option}
use Rattle.atomic_table.specs.Table.{Me}
use Rattle.lfm_protocol.specs.declared.limits.Limits.{Limits}
use Rattle.lfm_protocol.specs.declared.seats.SeatState.{SeatState}
use Rattle.lfm_laws.specs.table.Ready.{IsReady}
use Rattle.lfm_laws.specs.table.Words.{stepped_by}
use Rattle.lfm_table.specs.declared.seat_view.View.{View}
use Rattle.lfm_table.specs.declared.rule.Moving.{Moving}
use Rattle.lfm_table.specs.declared.table_seat.TableSeat.{TableSeat}
use Rattle.lfm_table.specs.Seats.{Seated, Rooted}
use Rattle.lfm_table.specs.Settled.{Became}
use Rattle.lfm_table.specs.Steps.{Event, oldest_in}

-- what holds of a seat between its steps, if its plain data are p and it has a in hand
pub record Fit {T : Type 0} (number words id : ℕ) (l : Limits) (p : SeatState) (m : Me (Option (Moving T)) (View T)) (a : Option (Moving T)) : Type 0 where
  pub seated : Seated number l p m a
  pub became : Became m.0.state l p
  pub ready : IsReady l.seats number p
  pub rooted : Rooted words id number l m.0

-- the step of a seat whose data are p has found n: what holds of the seat now, and the event
pub record MadeStep {T : Type 0} (follows : ℕ → T → T → Type 0) (suits : T → ℕ → Type 0) (number words id : ℕ) (l : Limits) (p : SeatState) (n : ℕ) (m : Me (Option (Moving T)) (View T)) (a : Option (Moving T)) (m' : Me (Option (Moving T)) (View T)) (a' : Option (Moving T)) : Type 0 where
  pub fit : Fit number words id l (stepped_by p number n (oldest_in a')).seat m' a'
  pub event : Event follows suits p a m.0 (stepped_by p number n (oldest_in a')).turn (stepped_by p number n (oldest_in a')).seat a' m'.0

-- `Fit` and `MadeStep`, for a `TableSeat`

-- the seat, whose plain data are p, is as the steps leave it
abbrev pub IsBetweenSteps : {T : Type 0} → TableSeat T → SeatState → Type 0
IsBetweenSteps s p = Fit s.number s.place.table_id.words s.place.id s.limits p s.place.me s.moving

-- the step of seat s, whose plain data are p, has found n and made it t
abbrev pub StepMade : {T : Type 0} → (ℕ → T → T → Type 0) → (T → ℕ → Type 0) → TableSeat T → SeatState → ℕ → TableSeat T → Type 0
StepMade follows suits s p n t = MadeStep follows suits t.number t.place.table_id.words t.place.id t.limits p n s.place.me s.moving t.place.me t.moving

-- the seat still has this number and these limits
abbrev pub KeepsNumberAndLimits : {T : Type 0} → TableSeat T → TableSeat T → Type 0
KeepsNumberAndLimits s t = (t.number ≡ s.number) × (t.limits ≡ s.limits)
