-- The same of a fair scheduler and owners that release: a seat that owns begins only releases, and in a fair round it goes
-- on too. Then all rounds count, also those that begin while a seat owns.
use Rattle.std.specs.Prelude.{◌≡◌, ◌⊎◌, ⊤, ℕ, zero, suc, false, ◌+◌, ◌*◌, ◌<◌, ◌++◌, List, [], ◌∷◌, length}
use Rattle.lfm_protocol.specs.declared.answers.Call.TheVariants.{Unlock, StartWait}
use Rattle.lfm_protocol.specs.declared.points.Point.{Point}
use Rattle.lfm_protocol.specs.declared.points.Point.TheVariants.{Rest, ReleaseOwnerStore}
use Rattle.lfm_protocol.specs.Core.{Core}
use Rattle.lfm_protocol.specs.Queue.{queue_of}
use Rattle.lfm_protocol.specs.Seats.{seat}
use Rattle.lfm_protocol.specs.Step.{begin}
use Rattle.lfm_protocol.specs.Turns.{is_refused}
use Rattle.lfm_laws.specs.laws.Laws.{IsReached}
use Rattle.lfm_laws.specs.laws.Schedules.{Event, begins, makes, happens, run_of, popped_record}
use Rattle.lfm_laws.specs.laws.Rounds.{IsRound}

-- a seat that owns begins no call but a release
abbrev pub OwnerOnlyReleases : Core → Event → Type 0
OwnerOnlyReleases c (makes s) = ⊤
OwnerOnlyReleases c (begins s Unlock) = ⊤
OwnerOnlyReleases c (begins s StartWait) = ⊤
OwnerOnlyReleases c (begins s call) = (seat c.seats s).depth ≡ 0

abbrev pub OwnersOnlyRelease : Core → List Event → Type 0
OwnersOnlyRelease c [] = ⊤
OwnersOnlyRelease c (e ∷ later) = OwnerOnlyReleases c e × OwnersOnlyRelease (happens c e).core later

-- the owner, if a seat owns, is between two calls, or has begun its release and has yet to clear the owner word
abbrev pub RestsOrReleases : Point → Type 0
RestsOrReleases Rest = ⊤
RestsOrReleases (ReleaseOwnerStore releaser) = ⊤
RestsOrReleases _ = ⊥

abbrev pub OwnerRestsOrReleases : Core → Type 0
OwnerRestsOrReleases c = 0 < c.owner → RestsOrReleases (seat c.seats c.owner).point

-- how many rounds the owner needs to release: one for each hold, in which it begins a release, and one for the store that
-- clears the owner word. 0 if no seat owns
abbrev pub rounds_from_rest : ℕ → ℕ
rounds_from_rest zero = 0
rounds_from_rest (suc nested) = nested + 2

abbrev pub rounds_to_release_at : ℕ → Point → ℕ
rounds_to_release_at depth Rest = rounds_from_rest depth
rounds_to_release_at depth (ReleaseOwnerStore releaser) = 1
rounds_to_release_at depth _ = 0

abbrev pub rounds_to_release : Core → ℕ
rounds_to_release c = rounds_to_release_at (seat c.seats c.owner).depth (seat c.seats c.owner).point

-- by this event seat s begins a release that isn't refused
abbrev pub ReleasesBy : Core → ℕ → Event → Type 0
ReleasesBy c s (begins t Unlock) = (t ≡ s) × (is_refused (begin c s Unlock).turn ≡ false)
ReleasesBy c s (begins t StartWait) = (t ≡ s) × (is_refused (begin c s StartWait).turn ≡ false)
ReleasesBy c s (begins t call) = ⊥
ReleasesBy c s (makes t) = ⊥

abbrev pub ReleasesIn : Core → ℕ → List Event → Type 0
ReleasesIn c s [] = ⊥
ReleasesIn c s (e ∷ later) = ReleasesBy c s e ⊎ ReleasesIn (happens c e).core s later

-- a fair round: a round in which an owner that is between two calls at its start begins a release
pub record IsFairRound (c : Core) (events : List Event) : Type 0 where
  pub round : IsRound c events
  pub releases : 0 < c.owner → (seat c.seats c.owner).point ≡ Rest → ReleasesIn c c.owner events

-- these events contain n fair rounds, one after another
abbrev pub HasFairRounds : ℕ → Core → List Event → Type 0
HasFairRounds zero c events = ⊤
HasFairRounds (suc n) c events =
    (before : List Event) × (round : List Event) × (later : List Event)
    × (events ≡ before ++ (round ++ later))
    × IsFairRound (run_of c before) round
    × HasFairRounds n (run_of (run_of c before) round) later

-- with N seats, and owners that only release, a record with k before it has left the queue after N + 10k + 9 fair rounds,
-- and as many more as the present owner needs to release
abbrev pub QueuedSeatsAreServedInFairRounds : Type 0
QueuedSeatsAreServedInFairRounds =
    (c : Core) (events : List Event) (k : ℕ) → IsReached c → OwnerRestsOrReleases c → OwnersOnlyRelease c events
    → k < length (queue_of c) → HasFairRounds (length c.seats + 10 * k + 9 + rounds_to_release c) c events
    → k < length (popped_record c events)

-- from each reached state in which the owner rests or releases, a fair round can be made in which owners begin only
-- releases, and after it the owner rests or releases again
abbrev pub FairRoundsCanBeMade : Type 0
FairRoundsCanBeMade =
    (c : Core) → IsReached c → OwnerRestsOrReleases c
    → (events : List Event) × IsFairRound c events × OwnersOnlyRelease c events × OwnerRestsOrReleases (run_of c events)
