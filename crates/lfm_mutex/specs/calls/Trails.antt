-- The steps of a call: those that the protocol requires, each after those before it, and the answer that the last one gives.
use Rattle.std.specs.Prelude.{◌≡◌, ◌⊎◌, ⊤, ℕ, ◌+◌, ◌≤◌, List, [], ◌∷◌, ◌++◌, length, Option, Some, None, Result, Ok, Err}
use Rattle.lfm_model.specs.declared.answers.Asked.{Asked}
use Rattle.lfm_model.specs.declared.answers.How.{How}
use Rattle.lfm_model.specs.declared.answers.Locked.{Locked}
use Rattle.lfm_model.specs.declared.refusals.Refusal.{Refusal}
use Rattle.lfm_words.specs.declared.pop_lists.Record.{Record}
use Rattle.lfm_protocol.specs.declared.answers.Answer.{Answer}
use Rattle.lfm_protocol.specs.declared.answers.Call.{Call}
use Rattle.lfm_protocol.specs.declared.answers.Turn.{Turn}
use Rattle.lfm_protocol.specs.declared.answers.Turn.TheVariants.{Open, Ended, Refused}
use Rattle.lfm_protocol.specs.declared.answers.Why.{Why}
use Rattle.lfm_protocol.specs.declared.limits.Limits.{Limits}
use Rattle.lfm_protocol.specs.declared.seats.SeatState.{SeatState}
use Rattle.lfm_protocol.specs.Begin.{begin}
pub use Rattle.lfm_table.specs.declared.seat_view.Seen.{Seen}
use Rattle.lfm_mutex.specs.calls.Runs.{end_of, trail_of, opens}
use Rattle.lfm_mutex.specs.calls.Sight.{Sight, is_asleep, is_in_call}

-- a seat with this state of the core has this sight
pub record Shows {T : Type 0} (x : SeatState) (s : Sight T) : Type 0 where
  pub depth : s.depth ≡ x.depth
  pub takes : s.takes ≡ x.takes
  pub asleep : s.asleep ≡ is_asleep x.point
  pub in_call : s.in_call ≡ is_in_call x.point

-- A call whose start gave the turn `first` and the state q, and which ended with `turn` and the state y: at once, or by steps,
-- each at the point to which those before it led.
abbrev pub CallEnds : Turn → ℕ → SeatState → List Seen → Turn → SeatState → List Seen → Type 0
CallEnds Open n q trail turn y trail' =
    (finds : List (ℕ × Option Record)) × (end_of n (opens q) finds ≡ record { seat = y; turn = turn }) × (trail' ≡ trail ++ trail_of n q finds)
CallEnds first n q trail turn y trail' = (turn ≡ first) × (y ≡ q) × (trail' ≡ trail)

-- the seat has made at most this number of steps
abbrev pub MakesAtMost : {T : Type 0} → ℕ → Sight T → Sight T → Type 0
MakesAtMost k s t = length t.trail ≤ length s.trail + k

module _ {T : Type 0} (l : Limits) where
  -- the call of a seat with the sight s ends with this turn, and the seat then has the sight t
  abbrev pub Makes : Call → Sight T → Sight T → Turn → Type 0
  Makes call s t turn =
      (x : SeatState) × (y : SeatState) × Shows x s × Shows y t × CallEnds (begin x l call).turn s.number (begin x l call).seat s.trail turn y t.trail

  abbrev pub Made : Call → Sight T → Sight T → Turn → Type 0
  Made call s t Open = ⊤
  Made call s t (Ended answer) = Makes call s t (Ended answer)
  Made call s t (Refused why) = (cause : Why) × Makes call s t (Refused cause)

  -- the call has made its steps, and the result is the answer of the last of them
  abbrev pub MakesCall : {A : Type 0} → (A → Answer) → Call → Sight T → Sight T → Result A Refusal → Type 0
  MakesCall answer call s t (Ok a) = Makes call s t (Ended (answer a))
  MakesCall answer call s t (Err refusal) = (cause : Why) × Makes call s t (Refused cause)

  -- receives that found no grant, in a row
  abbrev pub FindNone : Sight T → List (Sight T) → Sight T → Type 0
  FindNone s [] t = t ≡ s
  FindNone s (m ∷ ms) t = Makes Call.Receive s m (Ended (Answer.Got None)) × FindNone m ms t

  -- receives that found no grant, and then one that found it
  abbrev pub WaitsFor : How → Sight T → Sight T → Type 0
  WaitsFor how s t = (ms : List (Sight T)) × (m : Sight T) × FindNone s ms m × Makes Call.Receive m t (Ended (Answer.Got (Some how)))

  -- the steps of receive_lock: those of one or more receives
  abbrev pub ReceivesBy : Sight T → Sight T → Result How Refusal → Type 0
  ReceivesBy s t (Ok how) = WaitsFor how s t
  ReceivesBy s t (Err refusal) = (cause : Why) × Makes Call.Receive s t (Refused cause)

  -- the steps of lock: those of ask, and those of receive_lock if ask answered Asleep
  abbrev pub LocksBy : Sight T → Sight T → Result Locked Refusal → Type 0
  LocksBy s t (Ok (Locked.Held how)) =
      Makes Call.Lock s t (Ended (Answer.Asked (Asked.Held how))) ⊎ ((m : Sight T) × Makes Call.Lock s m (Ended (Answer.Asked Asked.Asleep)) × WaitsFor how m t)
  LocksBy s t (Ok (Locked.Again d)) = Makes Call.Lock s t (Ended (Answer.Asked (Asked.Again d)))
  LocksBy s t (Err refusal) = (cause : Why) × Makes Call.Lock s t (Refused cause)
