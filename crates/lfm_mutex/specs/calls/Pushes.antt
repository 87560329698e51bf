-- How a push has ended, and what its steps add up to.
use Rattle.std.specs.Prelude.{◌≡◌, ℕ, Option, length}
use Rattle.lfm_protocol.specs.declared.answers.Turn.{Turn}
use Rattle.lfm_protocol.specs.declared.points.Pusher.{Pusher}
use Rattle.lfm_protocol.specs.declared.seats.SeatState.{SeatState}
use Rattle.lfm_protocol.specs.After.{pushed}
use Rattle.lfm_protocol.specs.Begin.{Stepped}
use Rattle.lfm_table.specs.declared.rule.Moving.{Moving}
use Rattle.lfm_table.specs.declared.seat_view.View.{View}
use Rattle.lfm_table.specs.declared.table_seat.TableSeat.{TableSeat}
use Rattle.lfm_mutex.specs.declared.push.Pushed.{Pushed}
use Rattle.lfm_mutex.specs.calls.Due.{due}
use Rattle.lfm_mutex.specs.calls.FailedPushes.{Spends}
use Rattle.lfm_mutex.specs.calls.Runs.{opens}
use Rattle.lfm_mutex.specs.calls.FastPath.{Course}
use Rattle.lfm_mutex.specs.calls.Stops.{push_stop_point}
use Rattle.lfm_mutex.specs.calls.WakeUps.{grants_of}

-- the turn and the seat's state after a push, for a seat whose state was p
abbrev pub push_end : Pushed → SeatState → Pusher → Stepped
push_end Pushed.Queued p pusher = pushed p pusher
push_end (Pushed.Stopped stop) p pusher = opens (record p { point = push_stop_point pusher stop })

-- the course of a seat whose steps granted no seat the mutex, and how many of the steps due to its call they have used
pub record PlainCourse {T : Type 0} (follows : ℕ → T → T → Type 0) (suits : T → ℕ → Type 0) (number seats : ℕ) (p0 : SeatState) (a0 : Option (Moving T)) (v0 : View T) (turn : Turn) (p : SeatState) (a : Option (Moving T)) (v : View T) : Type 0 where
  pub course : Course follows suits number p0 a0 v0 turn p a v
  pub spends : Spends (due seats (length v0.popped) p0.point) (due seats (length v.popped) p.point) v0.trail v.trail
  pub grants : grants_of v.trail ≡ grants_of v0.trail

-- `PlainCourse`, for a `TableSeat`: the push of seat s, whose plain data were p, has come to this end and made it t
abbrev pub PushLeadsTo : {T : Type 0} → (ℕ → T → T → Type 0) → (T → ℕ → Type 0) → TableSeat T → SeatState → Stepped → TableSeat T → Type 0
PushLeadsTo follows suits s p end t = PlainCourse follows suits s.number s.limits.seats p s.moving s.place.me.0 end.turn end.seat t.moving t.place.me.0
