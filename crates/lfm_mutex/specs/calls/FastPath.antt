-- A call on its fast path: the steps that it has made, and what they add up to.
use Rattle.std.specs.Prelude.{◌≡◌, ⊤, ℕ, ◌<◌, Option, Some, Result, Ok, Err}
use Rattle.lfm_model.specs.declared.answers.How.{How}
use Rattle.lfm_model.specs.declared.answers.Locked.{Locked}
use Rattle.lfm_model.specs.declared.answers.Unlocked.{Unlocked}
use Rattle.lfm_model.specs.declared.refusals.Refusal.{Refusal}
use Rattle.lfm_protocol.specs.declared.answers.Answer.{Answer}
use Rattle.lfm_protocol.specs.declared.answers.Call.{Call}
use Rattle.lfm_protocol.specs.declared.answers.Turn.{Turn}
use Rattle.lfm_protocol.specs.declared.answers.Turn.TheVariants.{Ended, Refused}
use Rattle.lfm_protocol.specs.declared.answers.Why.{Why}
use Rattle.lfm_protocol.specs.declared.limits.Limits.{Limits}
use Rattle.lfm_protocol.specs.declared.points.Point.TheVariants.{Rest}
use Rattle.lfm_protocol.specs.declared.points.Releaser.{Releaser}
use Rattle.lfm_protocol.specs.declared.seats.SeatState.{SeatState}
use Rattle.lfm_protocol.specs.Limits.{max_depth}
use Rattle.lfm_table.specs.declared.seat_view.View.{View}
use Rattle.lfm_table.specs.declared.rule.Moving.{Moving}
use Rattle.lfm_table.specs.Rule.{value_in, last_hold}
use Rattle.lfm_mutex.specs.declared.seat.Seat.{Seat}
use Rattle.lfm_mutex.specs.calls.Runs.{Ran, Holds, how_held, opens}
use Rattle.lfm_mutex.specs.calls.Sight.{Sight, Turned, Concludes, Stays}
use Rattle.lfm_mutex.specs.calls.Trails.{Made}

-- the seat is awake, doesn't hold, and has a take left
pub record MayAcquire {T : Type 0} (s : Seat T) : Type 0 where
  pub rests : s.state.point ≡ Rest
  pub flat : s.state.depth ≡ 0
  pub charged : s.state.takes < s.table_seat.limits.budget

-- the seat is awake and holds, below the greatest depth
pub record MayDeepen {T : Type 0} (s : Seat T) : Type 0 where
  pub rests : s.state.point ≡ Rest
  pub held : 0 < s.state.depth
  pub room : s.state.depth < max_depth

-- how a call of try_lock has ended
abbrev pub try_turn : Result Locked Refusal → Turn
try_turn (Ok locked) = Ended (Answer.Locked locked)
try_turn (Err refusal) = Refused (Why.By refusal)

-- how a call that releases has ended
abbrev pub release_turn : Releaser → Unlocked → Turn
release_turn Releaser.Unlocker released = Ended (Answer.Unlocked released)
release_turn Releaser.Waiter released = Ended (Answer.Waiting released)

-- how a call of send_lock has ended
abbrev pub send_turn : Result ⊤ Refusal → Turn
send_turn (Ok sent) = Ended Answer.Sent
send_turn (Err refusal) = Refused (Why.By refusal)

-- a seat with the state p0, and with a0 in hand, has made some steps of its call, and now has the state p, and a in hand
pub record Course {T : Type 0} (follows : ℕ → T → T → Type 0) (suits : T → ℕ → Type 0) (number : ℕ) (p0 : SeatState) (a0 : Option (Moving T)) (v0 : View T) (turn : Turn) (p : SeatState) (a : Option (Moving T)) (v : View T) : Type 0 where
  pub ran : Ran number (opens p0) v0 turn p v
  pub concludes : Concludes p0 turn p
  pub stays : Stays p0.depth v0 (value_in a0) v (value_in a)
  pub last : last_hold v ≡ last_hold v0
  pub held : (how : How) → how_held turn ≡ Some how → Holds follows suits number (last_hold v0) how p a v

-- the call of a seat with the sight s has ended with this turn, and the seat now has the sight t: the whole contract of the
-- call
pub record ComesTo {T : Type 0} (follows : ℕ → T → T → Type 0) (suits : T → ℕ → Type 0) (l : Limits) (call : Call) (s t : Sight T) (turn : Turn) : Type 0 where
  pub turned : Turned follows suits l call s t turn
  pub made : Made l call s t turn
