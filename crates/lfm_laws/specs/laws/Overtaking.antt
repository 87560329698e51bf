-- How often seats become the owner, and stop being it, while a record is queued.
use Rattle.std.specs.Prelude.{ℕ, ◌+◌, ◌<◌, ◌≤◌, List, [], ◌∷◌, length}
use Rattle.lfm_protocol.specs.declared.points.Point.{Point}
use Rattle.lfm_protocol.specs.declared.points.Point.TheVariants.{EnterOwnerStore, ReleaseOwnerStore}
use Rattle.lfm_protocol.specs.Core.{Core}
use Rattle.lfm_protocol.specs.Queue.{queue_of}
use Rattle.lfm_protocol.specs.Seats.{seat}
use Rattle.lfm_laws.specs.laws.Schedules.{Event, begins, makes, happens, weight_of, popped_record}
use Rattle.lfm_laws.specs.steady.Steady.{Steady}

-- the weight of an event's step, by its point
abbrev pub weighed_in : (Point → ℕ) → Core → Event → ℕ
weighed_in weight c (begins s call) = 0
weighed_in weight c (makes s) = weight (seat c.seats s).point

-- the sum of these weights over a run
abbrev pub weight_of_run : (Point → ℕ) → Core → List Event → ℕ
weight_of_run weight c [] = 0
weight_of_run weight c (e ∷ later) = weighed_in weight c e + weight_of_run weight (happens c e).core later

-- with a step at this point its seat becomes the owner
abbrev pub enters_at : Point → ℕ
enters_at (EnterOwnerStore entrant how) = 1
enters_at _ = 0

-- how often a seat becomes the owner in a run
abbrev pub entries_of_run : Core → List Event → ℕ
entries_of_run c events = weight_of_run enters_at c events

-- with a step at this point its seat stops owning
abbrev pub releases_at : Point → ℕ
releases_at (ReleaseOwnerStore releaser) = 1
releases_at _ = 0

-- how often a seat stops owning in a run
abbrev pub releases_of_run : Core → List Event → ℕ
releases_of_run c events = weight_of_run releases_at c events

-- while a queued record has not left the queue, seats become the owner at most once more than records leave it
abbrev pub QueuedSeatsAreOvertakenOnce : Type 0
QueuedSeatsAreOvertakenOnce =
    (c : Core) (events : List Event) (k : ℕ) → Steady c → k < length (queue_of c) → length (popped_record c events) ≤ k
    → entries_of_run c events ≤ length (popped_record c events) + 1

-- while a queued record has not left the queue, owners release at most once more than records leave it: so before a record with
-- k before it leaves, owners release at most k + 1 times
abbrev pub QueuedSeatsWaitForFewReleases : Type 0
QueuedSeatsWaitForFewReleases =
    (c : Core) (events : List Event) (k : ℕ) → Steady c → k < length (queue_of c) → length (popped_record c events) ≤ k
    → releases_of_run c events ≤ length (popped_record c events) + 1

-- how often seat t becomes the owner in a run
abbrev pub entries_of_seat : Core → ℕ → List Event → ℕ
entries_of_seat c t [] = 0
entries_of_seat c t (e ∷ later) = weight_of enters_at c t e + entries_of_seat (happens c e).core t later

-- while a queued record has not left the queue, no seat becomes the owner twice
abbrev pub NoSeatOvertakesTwice : Type 0
NoSeatOvertakesTwice =
    (c : Core) (t : ℕ) (events : List Event) (k : ℕ) → Steady c → k < length (queue_of c) → length (popped_record c events) ≤ k
    → entries_of_seat c t events ≤ 1
