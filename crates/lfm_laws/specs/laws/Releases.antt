-- What a release answers: what its last step found and did. `unlock` gives this answer with that step; `start_wait` keeps it
-- for the wake store that ends the call.
use Rattle.std.specs.Prelude.{◌≡◌, ◌≢◌, ◌⊎◌, ⊤, ℕ, true, Option, Some, None, List, [], ◌∷◌}
use Rattle.lfm_model.specs.declared.answers.Asked.TheVariants as Asked
use Rattle.lfm_model.specs.declared.answers.How.{How}
use Rattle.lfm_model.specs.declared.answers.Unlocked.{Unlocked}
use Rattle.lfm_model.specs.declared.answers.Unlocked.TheVariants.{Still, Free, Granted, Posted, TakenOver}
use Rattle.lfm_protocol.specs.declared.answers.Answer.TheVariants as Answer
use Rattle.lfm_protocol.specs.declared.answers.Call.TheVariants.{StartWait}
use Rattle.lfm_protocol.specs.declared.answers.Turn.{Turn}
use Rattle.lfm_protocol.specs.declared.answers.Turn.TheVariants.{Open, Ended}
use Rattle.lfm_protocol.specs.declared.kinds.Kind.TheVariants.{CountSubtract, PushLoad, HandoffExchange}
use Rattle.lfm_protocol.specs.declared.points.Point.{Point}
use Rattle.lfm_protocol.specs.declared.points.Point.TheVariants.{WaitWakeStore}
use Rattle.lfm_words.specs.declared.pop_lists.Record.{Record}
use Rattle.lfm_words.specs.declared.wakes.Wake.TheVariants.{Grant}
use Rattle.lfm_protocol.specs.Core.{Core}
use Rattle.lfm_protocol.specs.Points.{kind}
use Rattle.lfm_protocol.specs.Queue.{queue_of}
use Rattle.lfm_protocol.specs.Seats.{seat, wake}
use Rattle.lfm_protocol.specs.Step.{begin, step}
use Rattle.lfm_laws.specs.laws.Schedules.{Event, makes, happens, run_of, is_call}
use Rattle.lfm_laws.specs.steady.Steady.{Steady}

-- The last step of a release

-- only this seat was counted, and now no seat is
pub record LeavesNobody (c d : Core) (s : ℕ) : Type 0 where
  pub kind : kind (seat c.seats s).point ≡ Some CountSubtract
  pub before : c.count ≡ 1
  pub after : d.count ≡ 0
  pub queue : queue_of d ≡ queue_of c

-- the oldest record was that of seat t; it has left the queue, and its stamp is in the wake word of t
pub record Grants (c d : Core) (t : ℕ) : Type 0 where
  pub stamp : ℕ
  pub oldest : queue_of c ≡ record { seat = t; stamp = stamp } ∷ queue_of d
  pub word : wake d.wakes t ≡ Grant stamp

-- the recheck found the push list empty
pub record FindsNobody (c d : Core) (s : ℕ) : Type 0 where
  pub kind : kind (seat c.seats s).point ≡ Some PushLoad
  pub empty : c.push.next ≡ 0
  pub queue : queue_of d ≡ queue_of c

-- the exchange found that the seat's own post is gone
pub record FindsTaken (c d : Core) (s : ℕ) : Type 0 where
  pub kind : kind (seat c.seats s).point ≡ Some HandoffExchange
  pub gone : c.handoff ≢ record { seat = s; post = (seat c.seats s).posts }
  pub queue : queue_of d ≡ queue_of c

-- what the step of seat s between these states did, if its release ends with this answer
abbrev pub Released : Core → Core → ℕ → Unlocked → Type 0
Released c d s (Still n) = ⊥
Released c d s Free = LeavesNobody c d s
Released c d s (Granted t) = Grants c d t
Released c d s Posted = FindsNobody c d s
Released c d s TakenOver = FindsTaken c d s

-- the answer of a release that ends with this turn, which leads its seat to this point
abbrev pub release_ended : Turn → Point → Option Unlocked
release_ended (Ended (Answer.Unlocked answer)) p = Some answer
release_ended Open (WaitWakeStore answer) = Some answer
release_ended _ _ = None

-- the same for the step that seat s makes next
abbrev pub release_of_step : Core → ℕ → Option Unlocked
release_of_step c s = release_ended (step c s).turn (seat (step c s).core.seats s).point

-- the answer of a release says what its last step did
abbrev pub ReleasesAnswerWhatTheyDid : Type 0
ReleasesAnswerWhatTheyDid =
    (c : Core) (s : ℕ) (answer : Unlocked) → Steady c → release_of_step c s ≡ Some answer → Released c (step c s).core s answer

-- The turn by which a record leaves the queue

-- the turn of seat s, which leads it to this point, by which record r leaves the queue: a lock holds by r as its own, or sleeps
-- and r is another seat's; a send is sent; a release answers the seat that it granted
abbrev pub TellsServed : Turn → Point → ℕ → Record → Type 0
TellsServed (Ended (Answer.Asked (Asked.Held how))) p s r = (how ≡ How.Queued r.stamp) × (r.seat ≡ s)
TellsServed (Ended (Answer.Asked Asked.Asleep)) p s r = r.seat ≢ s
TellsServed (Ended Answer.Sent) p s r = ⊤
TellsServed turn p s r = release_ended turn p ≡ Some (Granted r.seat)

-- if a step removes the oldest record from the queue, its turn is one of these; in an unlock or a start_wait it is Granted
abbrev pub ServedRecordsAreTold : Type 0
ServedRecordsAreTold =
    (c : Core) (s : ℕ) (r : Record) → Steady c → queue_of c ≡ r ∷ queue_of (step c s).core
    → TellsServed (step c s).turn (seat (step c s).core.seats s).point s r

-- The answer of a start_wait

-- seat s is inside a call before each of these events and after the last
abbrev pub StaysInCall : Core → ℕ → List Event → Type 0
StaysInCall c s [] = is_call (seat c.seats s).point ≡ true
StaysInCall c s (e ∷ later) = (is_call (seat c.seats s).point ≡ true) × StaysInCall (happens c e).core s later

-- one of these events is the step that ends the release of seat s with this answer
abbrev pub HasReleased : Core → ℕ → List Event → Unlocked → Type 0
HasReleased c s [] answer = ⊥
HasReleased c s (e ∷ later) answer =
    ((e ≡ makes s) × Released c (happens c e).core s answer) ⊎ HasReleased (happens c e).core s later answer

-- a start_wait answers what its own release did, whatever the others do in between
abbrev pub WaitsAnswerTheirRelease : Type 0
WaitsAnswerTheirRelease =
    (c : Core) (s : ℕ) (events : List Event) (answer : Unlocked) → Steady c → (begin c s StartWait).turn ≡ Open
    → StaysInCall (begin c s StartWait).core s events
    → (step (run_of (begin c s StartWait).core events) s).turn ≡ Ended (Answer.Waiting answer)
    → HasReleased (begin c s StartWait).core s events answer
