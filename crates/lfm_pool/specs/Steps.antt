-- What a step of a seat in one mutex of a pool needs, and what it tells.
use Rattle.std.specs.Prelude.{◌≡◌, ◌≢◌, ◌⊎◌, ⊤, ℕ, Some, None, ◌++◌, ◌+◌, ◌*◌, ◌<◌, Bool, true, false, List, [], ◌∷◌, length, Option}
use Rattle.atomic_table.specs.Table.{Me}
use Rattle.lfm_protocol.specs.declared.kinds.Kind.{Kind}
use Rattle.lfm_protocol.specs.declared.answers.Call.{Call}
use Rattle.lfm_protocol.specs.declared.limits.Limits.{Limits}
use Rattle.lfm_protocol.specs.Begin as Begin
use Rattle.lfm_protocol.specs.declared.seats.SeatState.{SeatState}
use Rattle.lfm_protocol.specs.declared.points.Point.{Point}
use Rattle.lfm_protocol.specs.declared.points.Point.TheVariants.{LinkStore, TakeLinkLoad, GrantWakeStore, ReceiveWakeLoad, ReceiveWakeStore}
use Rattle.lfm_protocol.specs.declared.points.Pusher.{Pusher}
use Rattle.lfm_protocol.specs.Points.{kind, target}
use Rattle.lfm_protocol.specs.Room.{PopFits}
use Rattle.lfm_words.specs.Popped.{oldest}
use Rattle.lfm_words.specs.declared.pop_lists.Record.{Record}
use Rattle.lfm_laws.specs.steady.Steady.{DepthAt}
use Rattle.lfm_laws.specs.table.Carried.{carries_value}
use Rattle.lfm_laws.specs.table.Words.{index_by, written_by, stepped_by, popped_by_step}
use Rattle.lfm_table.specs.declared.operations.Access.{Access}
use Rattle.lfm_table.specs.Accesses.{word_at, becomes, is_store}
use Rattle.lfm_table.specs.Steps.{stores, gives_at, dropped, kept_out, put_in}
use Rattle.lfm_table.specs.declared.seat_view.View.{View}
use Rattle.lfm_table.specs.Actions.{RunGoesOnBy, begins_and_step, seen}
use Rattle.lfm_table.specs.FastPath.{Fit}
use Rattle.lfm_table.specs.Rule.{value_in, in_hand}
use Rattle.lfm_pool.specs.declared.accesses.PoolAccess.{PoolAccess}
use Rattle.lfm_pool.specs.declared.view.PoolView.{PoolView}
use Rattle.lfm_pool.specs.Rule.{own_at, link_at, wake_at}
use Rattle.lfm_pool.specs.Chain.{KeepsChain, needs_chain, note_after}
use Rattle.lfm_pool.specs.Admissions.{MayPush}
use Rattle.lfm_pool.specs.Tables.{Slot, known, note, part, with_part, rests}

-- Steps

-- the seat rests in every mutex but m
abbrev pub RestsElsewhere : PoolView → ℕ → Type 0
RestsElsewhere v m = (n : ℕ) → n < length v.parts → n ≢ m → rests (part v n) ≡ true

-- What the step tells of mutex m, as a step at its table: the seat, whose data were p, has the view w and these slots now.
-- Its depth is one that a seat has at its point.
abbrev pub TellsOf : ℕ → SeatState → (ℕ → Me Slot (View ⊤) → Type 0) → Me ℕ PoolView → ℕ → Me ℕ PoolView → Type 0
TellsOf m p tells me n me' =
    (w : View ⊤) × (slots : List (ℕ × Slot)) × tells n (w, slots)
    × (me' ≡ (with_part me.0 m w (note_after p w (note me.0 m)), me.1)) × DepthAt w.state.depth w.state.point

-- the access is the next step of the seat with this number, whose data are p, at the table of a mutex with this many seats
abbrev pub IsAccessOf : ℕ → ℕ → SeatState → Access → Type 0
IsAccessOf seats number p a =
    (k : Kind) × (kind p.point ≡ Some k) × (word_at a ≡ index_by seats (target p.point number) (Some k))
    × ((n : ℕ) → becomes a n ≡ written_by p number n (Some k)) × (is_store a ≡ stores (Some k))

-- the same, and it is an access to one of the four words of the mutex, but not to the handoff word
abbrev pub IsOwnAccessOf : ℕ → ℕ → SeatState → Access → Type 0
IsOwnAccessOf seats number p a = IsAccessOf seats number p a × (word_at a < 4) × (word_at a ≢ 2)

-- the same, and the step needs nothing of the chain, and no stamp
abbrev pub IsPlainAccessOf : ℕ → ℕ → SeatState → Access → Type 0
IsPlainAccessOf seats number p a = IsOwnAccessOf seats number p a × (needs_chain p.point ≡ false)

-- In a pool of this many mutexes and seats, the word at the index is the one that has the index `word` at the table of mutex
-- m: one of the four words of the mutex, or the link word or the wake word of a seat.
abbrev pub IsWordAt : ℕ → ℕ → ℕ → ℕ → ℕ → Type 0
IsWordAt mutexes seats m index word =
    ((word < 4) × (index ≡ own_at m word))
    ⊎ ((j : ℕ) × (j < seats) × (((word ≡ 4 + j) × (index ≡ link_at mutexes j)) ⊎ ((word ≡ 4 + seats + j) × (index ≡ wake_at mutexes j))))

-- a step at this point accesses the link word or the wake word of a seat, and is one that a pool has
abbrev pub is_at_seat_word : Point → Bool
is_at_seat_word (LinkStore Pusher.Locker seen) = true
is_at_seat_word (TakeLinkLoad carrier next) = true
is_at_seat_word (GrantWakeStore carrier oldest) = true
is_at_seat_word (ReceiveWakeLoad sleeper) = true
is_at_seat_word (ReceiveWakeStore stamp) = true
is_at_seat_word _ = false

-- the access is the next step in mutex m of the seat with this number, whose data there are p, in a pool of this many
-- mutexes and seats
abbrev pub IsStepOf : ℕ → ℕ → ℕ → ℕ → SeatState → PoolAccess → Type 0
IsStepOf mutexes seats m number p a =
    IsAccessOf seats number p a.access × IsWordAt mutexes seats m a.index (word_at a.access)
    × ((word_at a.access < 4) ⊎ (is_at_seat_word p.point ≡ true))

-- the same, and it is not an access to the handoff word
abbrev pub IsStepAt : ℕ → ℕ → ℕ → ℕ → SeatState → PoolAccess → Type 0
IsStepAt mutexes seats m number p a = IsStepOf mutexes seats m number p a × (word_at a.access ≢ 2)

-- a store tells the number that it stores
abbrev pub IsTold : Access → ℕ → Type 0
IsTold (Access.Store word new) n = n ≡ new
IsTold _ n = ⊤

-- Parts

-- what the seat has of the pop list and the value of a mutex, at the table of that mutex: nothing, or both
abbrev pub hand_if : Bool → ℕ → View ⊤ → Slot
hand_if true seats v = Some (record { popped = record { records = v.popped; room = seats }; value = tt })
hand_if false seats v = None

abbrev pub hand_of : ℕ → SeatState → View ⊤ → Slot
hand_of seats p v = hand_if (carries_value p) seats v

-- what of this it keeps while it makes its step, and what is in its slot then
abbrev pub hand_out : ℕ → SeatState → View ⊤ → Option ⊤
hand_out seats p v = value_in (kept_out (gives_at p.point) (dropped p (hand_of seats p v)))

abbrev pub slots_out : ℕ → SeatState → View ⊤ → List (ℕ × Slot)
slots_out seats p v = put_in (gives_at p.point) (dropped p (hand_of seats p v)) (in_hand (carries_value p))

-- the seat with this number, at this place of the table, has the data p of a mutex between two steps
abbrev pub Sits : ℕ → ℕ → Limits → SeatState → View ⊤ → Type 0
Sits number id l p v = Fit number (4 + 2 * l.seats) id l p (v, in_hand (carries_value p)) (hand_of l.seats p v)

-- The seat's data p in a mutex before a step, and what it knows of the mutex before it and after it. It found or stored n.
-- The pop list was `popped` before the step; a seat that carries the value knew that. It had room for a record, if the step
-- has added one. Before it and after it, its depth is one that a seat has at its point.
pub record Stepped (number : ℕ) (p : SeatState) (v : View ⊤) (n : ℕ) (w : View ⊤) : Type 0 where
  pub popped : List Record
  pub had : carries_value p ≡ true → popped ≡ v.popped
  pub deep : DepthAt p.depth p.point
  pub deep_now : DepthAt w.state.depth w.state.point
  pub room : PopFits (length popped) v.limits.seats (kind p.point)
  pub state : w.state ≡ (stepped_by p number n (oldest popped)).seat
  pub listed : w.popped ≡ popped_by_step p number n popped
  pub trail : w.trail ≡ v.trail ++ seen p.point n ∷ []
  pub run : RunGoesOnBy (begins_and_step number v.state p) v w

-- the step of a seat in mutex m: it knows the same of all other mutexes
abbrev pub StepsIn : ℕ → ℕ → ℕ → Limits → SeatState → Me ℕ PoolView → ℕ → Me ℕ PoolView → Type 0
StepsIn number id m l p me n me' =
    (w : View ⊤) × (me' ≡ (with_part me.0 m w (note_after p w (note me.0 m)), me.1))
    × Sits number id l w.state w × Stepped number p (part me.0 m) n w

-- the seat, whose data in mutex m are p, may make its step there, as far as the chain and the stamps go
abbrev pub KeepsChainIn : ℕ → ℕ → SeatState → PoolView → Type 0
KeepsChainIn number m p v = KeepsChain p number (part v m) (note v m) × MayPush p.point (known v m)

-- the seat's data in mutex m, and after it has started this call there
abbrev pub state_in : PoolView → ℕ → SeatState
state_in v m = (part v m).state

abbrev pub begun_in : PoolView → ℕ → Limits → Call → SeatState
begun_in v m l call = (Begin.begin (state_in v m) l call).seat

-- The same if the seat, which rests, holds mutex m this many times: it may have given up holds since its last step there.
abbrev pub state_at : PoolView → ℕ → ℕ → SeatState
state_at v m depth = record (state_in v m) { depth = depth }

abbrev pub begun_at : PoolView → ℕ → ℕ → Limits → Call → SeatState
begun_at v m depth l call = (Begin.begin (state_at v m depth) l call).seat

-- the call whose first step is an access of this kind
abbrev pub call_of : Access → Call
call_of (Access.CompareExchange word old new) = Call.TryLock
call_of (Access.FetchAdd word number) = Call.Lock
call_of (Access.Load word) = Call.Receive
call_of _ = Call.Unlock
