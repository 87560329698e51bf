-- The same of owners that begin any calls, as sends and recursive locks: in a full round an owner that is between two calls
-- begins one. Each call that isn't a release adds a constant number of rounds.
use Rattle.std.specs.Prelude.{◌≡◌, ◌⊎◌, ⊤, ℕ, zero, suc, false, ◌+◌, ◌*◌, ◌<◌, ◌++◌, List, [], ◌∷◌, length, nat_eq, if◌then◌else◌}
use Rattle.lfm_protocol.specs.declared.answers.Call.TheVariants.{Unlock, StartWait}
use Rattle.lfm_protocol.specs.declared.points.Point.TheVariants.{Rest}
use Rattle.lfm_protocol.specs.Core.{Core}
use Rattle.lfm_protocol.specs.Queue.{queue_of}
use Rattle.lfm_protocol.specs.Seats.{seat}
use Rattle.lfm_protocol.specs.Step.{begin}
use Rattle.lfm_protocol.specs.Turns.{is_refused}
use Rattle.lfm_laws.specs.laws.Laws.{IsReached}
use Rattle.lfm_laws.specs.laws.Schedules.{Event, begins, makes, happens, run_of, popped_record}
use Rattle.lfm_laws.specs.laws.Rounds.{IsRound}

-- by this event seat s begins a call that isn't refused
abbrev pub BeginsBy : Core → ℕ → Event → Type 0
BeginsBy c s (begins t call) = (t ≡ s) × (is_refused (begin c s call).turn ≡ false)
BeginsBy c s (makes t) = ⊥

-- by one of these events it does
abbrev pub BeginsIn : Core → ℕ → List Event → Type 0
BeginsIn c s [] = ⊥
BeginsIn c s (e ∷ later) = BeginsBy c s e ⊎ BeginsIn (happens c e).core s later

-- a full round: a round in which an owner that is between two calls at its start begins one
pub record IsFullRound (c : Core) (events : List Event) : Type 0 where
  pub round : IsRound c events
  pub begins_call : 0 < c.owner → (seat c.seats c.owner).point ≡ Rest → BeginsIn c c.owner events

-- these events contain n full rounds, one after another
abbrev pub HasFullRounds : ℕ → Core → List Event → Type 0
HasFullRounds zero c events = ⊤
HasFullRounds (suc n) c events =
    (before : List Event) × (round : List Event) × (later : List Event)
    × (events ≡ before ++ (round ++ later))
    × IsFullRound (run_of c before) round
    × HasFullRounds n (run_of (run_of c before) round) later

-- 1 if by this event the owner begins a call that isn't a release and isn't refused
abbrev pub begun_by_owner : Core → Event → ℕ
begun_by_owner c (begins s Unlock) = 0
begun_by_owner c (begins s StartWait) = 0
begun_by_owner c (begins s call) = if nat_eq s c.owner then (if is_refused (begin c s call).turn then 0 else 1) else 0
begun_by_owner c (makes s) = 0

-- how many such calls owners begin in a run
abbrev pub calls_of_owners : Core → List Event → ℕ
calls_of_owners c [] = 0
calls_of_owners c (e ∷ later) = begun_by_owner c e + calls_of_owners (happens c e).core later

-- with N seats, a record with k before it has left the queue after 3N + 10k + 12 full rounds, one more for each hold of the
-- present owner, and five more for each call that isn't a release and that an owner begins in these events
abbrev pub QueuedSeatsAreServedWhateverOwnersBegin : Type 0
QueuedSeatsAreServedWhateverOwnersBegin =
    (c : Core) (events : List Event) (k : ℕ) → IsReached c → k < length (queue_of c)
    → HasFullRounds (3 * length c.seats + 10 * k + 12 + (seat c.seats c.owner).depth + 5 * calls_of_owners c events) c events
    → k < length (popped_record c events)

-- from each reached state a full round can be made in which owners begin no calls but releases
abbrev pub FullRoundsCanBeMade : Type 0
FullRoundsCanBeMade =
    (c : Core) → IsReached c → (events : List Event) × IsFullRound c events × (calls_of_owners c events ≡ 0)
