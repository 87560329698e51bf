-- What happens to a seat that a send has claimed, if the send then finds the count above 0: the send pushes the seat's record,
-- which is then the last of the queue. Each law here is a clause of a public function of `lfm_laws`.
use Rattle.std.specs.Prelude.{◌≡◌, ◌⊎◌, ℕ, ◌<◌, ◌++◌, List, [], ◌∷◌, nat_eq, if◌then◌else◌}
use Rattle.lfm_protocol.specs.declared.answers.Answer.{Answer}
use Rattle.lfm_protocol.specs.declared.answers.Turn.TheVariants.{Ended}
use Rattle.lfm_words.specs.declared.pop_lists.Record.{Record}
use Rattle.lfm_protocol.specs.Core.{Core}
use Rattle.lfm_protocol.specs.Queue.{queue_of}
use Rattle.lfm_protocol.specs.Seats.{seat}
use Rattle.lfm_protocol.specs.Step.{step}
use Rattle.lfm_laws.specs.laws.Errands.{asks_for, claims_for}
use Rattle.lfm_laws.specs.laws.Events.{pushed_by}
use Rattle.lfm_laws.specs.laws.Releases.{StaysInCall}
use Rattle.lfm_laws.specs.laws.Schedules.{Event, begins, makes, happens, run_of, is_call}
use Rattle.lfm_laws.specs.steady.Steady.{Steady}

-- seat s has claimed seat t by a send, and its next step, which adds seat t to the count, finds the count above 0
pub record IsToCount (c : Core) (s t : ℕ) : Type 0 where
  pub some : 0 < t
  pub claims : claims_for (seat c.seats s) ≡ t
  pub counted : 0 < c.count

-- What the call pushes

-- the records that seat s pushes by this event
abbrev pub pushes_of_event : Core → ℕ → Event → List Record
pushes_of_event c s (begins t call) = []
pushes_of_event c s (makes t) = if nat_eq t s then pushed_by c s else []

-- the records that the open call of seat s pushes among these events, in order
abbrev pub pushes_of_call : Core → ℕ → List Event → List Record
pushes_of_call c s [] = []
pushes_of_call c s (e ∷ later) =
    if is_call (seat c.seats s).point then pushes_of_event c s e ++ pushes_of_call (happens c e).core s later else []

-- the call of seat s has pushed nothing in these events, and after them it has yet to push seat t
pub record IsToPush (c : Core) (s t : ℕ) (events : List Event) : Type 0 where
  pub nothing : pushes_of_call c s events ≡ []
  pub asks : asks_for (seat (run_of c events).seats s) s ≡ t

-- the call of seat s has pushed the record of seat t in these events, once, and no other
pub record HasPushed (c : Core) (s t : ℕ) (events : List Event) : Type 0 where
  pub stamp : ℕ
  pub only : pushes_of_call c s events ≡ record { seat = t; stamp = stamp } ∷ []

-- after the count add the send is still to push seat t, or has pushed it once, whatever the others do in between
abbrev pub ClaimedSeatsArePushed : Type 0
ClaimedSeatsArePushed =
    (c : Core) (s t : ℕ) (events : List Event) → IsToCount c s t → IsToPush (step c s).core s t events ⊎ HasPushed (step c s).core s t events

-- How the seat is queued

-- the record of seat t has been added at the end of the queue, with the stamp of the push word
abbrev pub ComesLast : Core → Core → ℕ → Type 0
ComesLast c d t = queue_of d ≡ queue_of c ++ record { seat = t; stamp = d.push.stamp } ∷ []

-- one of these events is a step of seat s that adds the record of seat t at the end of the queue
abbrev pub HasQueued : Core → ℕ → ℕ → List Event → Type 0
HasQueued c s t [] = ⊥
HasQueued c s t (e ∷ later) = ((e ≡ makes s) × ComesLast c (happens c e).core t) ⊎ HasQueued (happens c e).core s t later

-- before the send ends, it has added the record of seat t at the end of the queue
abbrev pub ClaimedSeatsAreQueued : Type 0
ClaimedSeatsAreQueued =
    (c : Core) (s t : ℕ) (events : List Event) (answer : Answer) → Steady c → IsToCount c s t → StaysInCall (step c s).core s events
    → (step (run_of (step c s).core events) s).turn ≡ Ended answer → HasQueued (step c s).core s t events
