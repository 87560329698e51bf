-- One turn of a seat: the start of a call, or one atomic step, each as the core makes it for that seat.
use Rattle.std.specs.Prelude.{◌≡◌, ℕ, ◌+◌, [], ◌∷◌, ◌++◌, Bool, false, true, Option, Some, None}
use Rattle.lfm_model.specs.declared.answers.How.{How}
use Rattle.lfm_words.specs.declared.pop_lists.Record.{Record}
use Rattle.lfm_protocol.specs.declared.answers.Call.{Call}
use Rattle.lfm_protocol.specs.declared.answers.Turn.{Turn}
use Rattle.lfm_protocol.specs.declared.answers.Turn.TheVariants.{Refused}
use Rattle.lfm_protocol.specs.declared.answers.Why.TheVariants.{Idle}
use Rattle.lfm_protocol.specs.declared.kinds.Kind.{Kind}
use Rattle.lfm_protocol.specs.declared.limits.Limits.{Limits}
use Rattle.lfm_protocol.specs.declared.seats.SeatState.{SeatState}
use Rattle.lfm_protocol.specs.Begin.{begin}
use Rattle.lfm_protocol.specs.Points.{kind as kind_of}
use Rattle.lfm_laws.specs.table.Words.{stepped_by}
use Rattle.lfm_table.specs.Rule.{seen}
use Rattle.lfm_mutex.specs.declared.mutex.Mutex.{Mutex}
use Rattle.lfm_mutex.specs.declared.seat.Seat.{Seat}
use Rattle.lfm_mutex.specs.Belongs.{OfMutex, state_of}
use Rattle.lfm_mutex.specs.calls.Acts.{ActsWakingGranted}
use Rattle.lfm_mutex.specs.calls.Runs.{how_held, is_release}
use Rattle.lfm_mutex.specs.calls.Sight.{Sight, sight, is_asleep, is_in_call, Finds}

-- only a store of the owner word can end a hold
abbrev pub stores_owner : Kind → Bool
stores_owner Kind.OwnerStore = true
stores_owner _ = false

-- a seat with the state x and the sight s begins a call
abbrev pub Begins : {T : Type 0} → Limits → Call → SeatState → Sight T → Turn → SeatState → Sight T → Type 0
Begins l call x s turn y t =
    (turn ≡ (begin x l call).turn) × (y ≡ (begin x l call).seat) × (t ≡ record s { depth = y.depth; takes = y.takes; asleep = is_asleep y.point; in_call = is_in_call y.point })

-- a seat with the state x makes the step at its point: it found n, and the oldest record of the pop list was o
abbrev pub Steps : {T : Type 0} → SeatState → Sight T → Turn → SeatState → Sight T → Type 0
Steps x s turn y t =
    (n : ℕ) × (o : Option Record) × (turn ≡ (stepped_by x s.number n o).turn) × (y ≡ (stepped_by x s.number n o).seat) × (t.number ≡ s.number) × (t.depth ≡ y.depth) × (t.takes ≡ y.takes)
    × (t.trail ≡ s.trail ++ seen x.point n ∷ [])

-- What a step does with the value. A seat that acquires the mutex finds the value that was left last. With the store that
-- ends a hold, a seat leaves the value that it had in hand, keeps the one that it had found, and the hold gets the next number.
-- Every other step changes none of these.
pub record KeepsValue {T : Type 0} (follows : ℕ → T → T → Type 0) (fits : T → ℕ → Type 0) (x : SeatState) (s : Sight T) (turn : Turn) (t : Sight T) : Type 0 where
  pub gains : (how : How) → how_held turn ≡ Some how → Finds follows fits how s t
  pub leaves : is_release x.point ≡ true → (t.last ≡ s.value) × (t.found ≡ s.found) × (t.ended ≡ s.holds_ended + 1)
  pub keeps : is_release x.point ≡ false → how_held turn ≡ None → t ≡ record s { depth = t.depth; takes = t.takes; asleep = t.asleep; in_call = t.in_call; trail = t.trail; sends = t.sends }

-- a seat with the state x makes the step at its point; without an open call nothing changes
abbrev pub StepsOn : {T : Type 0} → (ℕ → T → T → Type 0) → (T → ℕ → Type 0) → Option Kind → SeatState → Sight T → Turn → SeatState → Sight T → Type 0
StepsOn follows fits None x s turn y t = (turn ≡ Refused Idle) × (y ≡ x) × (t ≡ s)
StepsOn follows fits (Some k) x s turn y t = Steps x s turn y t × KeepsValue follows fits x s turn t

-- the seat is one of this mutex, and the step at its point is of this kind
pub record NextIs {T : Type 0} (k : Kind) (s : Seat T) (m : Mutex T) : Type 0 where
  pub belongs : OfMutex s m
  pub kind : kind_of (state_of s).point ≡ Some k

-- the seat s has made the step at its point, which is of this kind, and is now t; without an open call nothing changes
pub record MakesTurn {T : Type 0} (follows : ℕ → T → T → Type 0) (fits : T → ℕ → Type 0) (k : Option Kind) (s : Seat T) (turn : Turn) (t : Seat T) : Type 0 where
  pub acts : ActsWakingGranted s t
  pub step : StepsOn follows fits k (state_of s) (sight s) turn (state_of t) (sight t)
