-- Starvation freedom from the push on: after how many rounds a queued record has left the queue. In a round, each seat that
-- can go on at its start goes on. Which calls begin meanwhile, and in which order the seats make their steps, is arbitrary.
use Rattle.std.specs.Prelude.{◌≡◌, ◌⊎◌, ⊤, ℕ, zero, suc, true, ◌+◌, ◌*◌, ◌<◌, ◌++◌, List, [], ◌∷◌, length}
use Rattle.lfm_protocol.specs.declared.answers.Call.TheVariants.{Receive}
use Rattle.lfm_protocol.specs.declared.answers.Turn.TheVariants.{Open}
use Rattle.lfm_protocol.specs.declared.points.Point.TheVariants.{Asleep}
use Rattle.lfm_protocol.specs.declared.points.Sleeper.{Sleeper}
use Rattle.lfm_words.specs.declared.wakes.Wake.TheVariants.{Grant}
use Rattle.lfm_protocol.specs.Core.{Core}
use Rattle.lfm_protocol.specs.Queue.{queue_of}
use Rattle.lfm_protocol.specs.Seats.{seat, wake}
use Rattle.lfm_protocol.specs.Step.{begin}
use Rattle.lfm_laws.specs.laws.Laws.{IsReached}
use Rattle.lfm_laws.specs.laws.Schedules.{Event, begins, makes, happens, is_call, run_of, popped_record}

-- seat s sleeps and has its grant
pub record SleepsWithGrant (c : Core) (s : ℕ) : Type 0 where
  pub since : Sleeper
  pub stamp : ℕ
  pub sleeps : (seat c.seats s).point ≡ Asleep since
  pub word : wake c.wakes s ≡ Grant stamp

-- seat s can go on: its call is open, so it can make a step, or it sleeps and has its grant, so it can begin its receive. A
-- seat between two calls can't: whether it begins another is its own choice
abbrev pub CanGoOn : Core → ℕ → Type 0
CanGoOn c s = (is_call (seat c.seats s).point ≡ true) ⊎ SleepsWithGrant c s

-- by this event seat s goes on: it makes a step of its open call, or begins a receive that isn't refused
abbrev pub GoesOnBy : Core → ℕ → Event → Type 0
GoesOnBy c s (makes t) = (t ≡ s) × (is_call (seat c.seats s).point ≡ true)
GoesOnBy c s (begins t Receive) = (t ≡ s) × ((begin c s Receive).turn ≡ Open)
GoesOnBy c s (begins t call) = ⊥

-- by one of these events seat s goes on
abbrev pub GoesOnIn : Core → ℕ → List Event → Type 0
GoesOnIn c s [] = ⊥
GoesOnIn c s (e ∷ later) = GoesOnBy c s e ⊎ GoesOnIn (happens c e).core s later

-- a round: each seat that can go on at its start goes on in it
abbrev pub IsRound : Core → List Event → Type 0
IsRound c events = (s : ℕ) → CanGoOn c s → GoesOnIn c s events

-- these events contain n rounds, one after another, whether or not a seat owns
abbrev pub HasRounds : ℕ → Core → List Event → Type 0
HasRounds zero c events = ⊤
HasRounds (suc n) c events =
    (before : List Event) × (round : List Event) × (later : List Event)
    × (events ≡ before ++ (round ++ later))
    × IsRound (run_of c before) round
    × HasRounds n (run_of (run_of c before) round) later

-- these events contain n rounds, one after another, each of which begins while no seat owns
abbrev pub HasUnownedRounds : ℕ → Core → List Event → Type 0
HasUnownedRounds zero c events = ⊤
HasUnownedRounds (suc n) c events =
    (before : List Event) × (round : List Event) × (later : List Event)
    × (events ≡ before ++ (round ++ later))
    × ((run_of c before).owner ≡ 0)
    × IsRound (run_of c before) round
    × HasUnownedRounds n (run_of (run_of c before) round) later

-- with N seats, a record with k before it has left the queue after N + 8k + 7 rounds that begin while no seat owns,
-- whichever calls begin meanwhile and however long the holds last
abbrev pub QueuedSeatsAreServedInRounds : Type 0
QueuedSeatsAreServedInRounds =
    (c : Core) (events : List Event) (k : ℕ) → IsReached c → k < length (queue_of c)
    → HasUnownedRounds (length c.seats + 8 * k + 7) c events → k < length (popped_record c events)

-- from each state a round can be made, and no call begins in it but receives
abbrev pub BeginsOnlyReceives : List Event → Type 0
BeginsOnlyReceives [] = ⊤
BeginsOnlyReceives (makes s ∷ later) = BeginsOnlyReceives later
BeginsOnlyReceives (begins s Receive ∷ later) = BeginsOnlyReceives later
BeginsOnlyReceives (begins s call ∷ later) = ⊥

abbrev pub RoundsCanBeMade : Type 0
RoundsCanBeMade = (c : Core) → (events : List Event) × IsRound c events × BeginsOnlyReceives events
