-- Rounds of the user mutex in a run of the model, and after how many of them a waiter that was sent holds. In a round, each
-- seat that can go on in the user mutex at its start goes on there. Which calls begin meanwhile, and in which order the seats
-- make their steps, is arbitrary.
use Rattle.std.specs.Prelude.{◌≡◌, ◌⊎◌, ⊤, ℕ, zero, suc, true, ◌+◌, ◌*◌, ◌++◌, List, [], ◌∷◌, length}
use Rattle.lfm_protocol.specs.declared.answers.Call.TheVariants.{Receive}
use Rattle.lfm_protocol.specs.declared.answers.Turn.TheVariants.{Open}
use Rattle.lfm_protocol.specs.declared.points.Point.TheVariants.{Rest, Asleep}
use Rattle.lfm_protocol.specs.declared.points.Sleeper.{Sleeper}
use Rattle.lfm_words.specs.declared.pop_lists.Record.{Record}
use Rattle.lfm_words.specs.declared.wakes.Wake.TheVariants.{Grant}
use Rattle.lfm_protocol.specs.Queue.{queue_of}
use Rattle.lfm_protocol.specs.Seats.{seat, wake}
use Rattle.lfm_protocol.specs.Step.{begin}
use Rattle.lfm_laws.specs.laws.Rounds.{CanGoOn}
use Rattle.lfm_laws.specs.laws.Schedules.{is_call}
use Rattle.lfm_condvar_laws.specs.Condvars.{receiving, CondvarCore, point_of}
use Rattle.lfm_condvar_laws.specs.Events.{CondvarEvent, begins, makes, is_outside, happens, run_of}
use Rattle.lfm_condvar_laws.specs.Laws.{CondvarRun, reached_by}

-- a wait of seat s that has released the lock of its condvar begins a receive
pub record ReceivesNext (k : CondvarCore) (s : ℕ) : Type 0 where
  pub condvar : ℕ
  pub ticket : ℕ
  pub since : Sleeper
  pub waits : k.stage s ≡ receiving condvar ticket
  pub sleeps : point_of k s ≡ Asleep since

-- by this event seat s goes on in the user mutex: it makes a step of its open call there, or begins a receive that isn't
-- refused
abbrev pub GoesOnBy : CondvarCore → ℕ → CondvarEvent → Type 0
GoesOnBy k s (makes t) = (t ≡ s) × ((is_call (point_of k s) ≡ true) ⊎ ReceivesNext k s)
GoesOnBy k s (begins t Receive) = (t ≡ s) × (is_outside (k.stage s) ≡ true) × ((begin k.mutex s Receive).turn ≡ Open)
GoesOnBy k s _ = ⊥

-- by one of these events seat s goes on in the user mutex
abbrev pub GoesOnIn : CondvarCore → ℕ → List CondvarEvent → Type 0
GoesOnIn k s [] = ⊥
GoesOnIn k s (e ∷ later) = GoesOnBy k s e ⊎ GoesOnIn (happens k e) s later

-- a round: each seat that can go on in the user mutex at its start goes on there
abbrev pub IsRound : CondvarCore → List CondvarEvent → Type 0
IsRound k events = (s : ℕ) → CanGoOn k.mutex s → GoesOnIn k s events

-- these events contain n rounds, one after another, each of which begins while no seat owns the user mutex
abbrev pub HasUnownedRounds : ℕ → CondvarCore → List CondvarEvent → Type 0
HasUnownedRounds zero k events = ⊤
HasUnownedRounds (suc n) k events =
    (before : List CondvarEvent) × (round : List CondvarEvent) × (later : List CondvarEvent)
    × (events ≡ before ++ (round ++ later))
    × ((run_of k before).mutex.owner ≡ 0)
    × IsRound (run_of k before) round
    × HasUnownedRounds n (run_of (run_of k before) round) later

-- a wait with this ticket is about to end: its seat owns the user mutex, at depth 1, and is in no call of it
pub record IsAboutToEnd (k : CondvarCore) (s v ticket : ℕ) : Type 0 where
  pub stage : k.stage s ≡ receiving v ticket
  pub rests : point_of k s ≡ Rest
  pub owns : k.mutex.owner ≡ s
  pub depth : (seat k.mutex.seats s).depth ≡ 1

-- at some moment of these events that is so
abbrev pub HoldsIn : CondvarCore → ℕ → ℕ → ℕ → List CondvarEvent → Type 0
HoldsIn k s v ticket [] = IsAboutToEnd k s v ticket
HoldsIn k s v ticket (e ∷ later) = IsAboutToEnd k s v ticket ⊎ HoldsIn (happens k e) s v ticket later

-- A waiter that was sent and is queued, with k records before its own, holds within N + 8k + 11 rounds that begin while no
-- seat owns. By `sleepers_are_reachable` of lfm_laws, a waiter that sleeps and is no longer WAITING is queued, has its grant, or
-- is between the claim of a send and its grant
abbrev pub SentWaitersHoldInRounds : Type 0
SentWaitersHoldInRounds =
    (r : CondvarRun) (events : List CondvarEvent) (v ticket : ℕ) (first behind : List Record) (x : Record)
    → (reached_by r).stage x.seat ≡ receiving v ticket → queue_of (reached_by r).mutex ≡ first ++ (x ∷ behind)
    → HasUnownedRounds (length (reached_by r).mutex.seats + 8 * length first + 11) (reached_by r) events
    → HoldsIn (reached_by r) x.seat v ticket events

-- a waiter that has its grant holds within five such rounds
abbrev pub GrantedWaitersHoldInRounds : Type 0
GrantedWaitersHoldInRounds =
    (r : CondvarRun) (events : List CondvarEvent) (s v ticket stamp : ℕ) → (reached_by r).stage s ≡ receiving v ticket
    → wake (reached_by r).mutex.wakes s ≡ Grant stamp → HasUnownedRounds 5 (reached_by r) events
    → HoldsIn (reached_by r) s v ticket events

-- From each state that a run reaches a round can be made. Waits and wakes that have begun go on in it, and no other call begins
-- but receives
abbrev pub BeginsOnlyReceives : List CondvarEvent → Type 0
BeginsOnlyReceives [] = ⊤
BeginsOnlyReceives (makes s ∷ later) = BeginsOnlyReceives later
BeginsOnlyReceives (begins s Receive ∷ later) = BeginsOnlyReceives later
BeginsOnlyReceives (e ∷ later) = ⊥

abbrev pub RoundsCanBeMade : Type 0
RoundsCanBeMade = (r : CondvarRun) → (events : List CondvarEvent) × IsRound (reached_by r) events × BeginsOnlyReceives events
