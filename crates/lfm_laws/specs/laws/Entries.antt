-- How a seat comes to hold: by its own queued record, by the grant that its receive has loaded, by neither, or once more
-- because its number is in the owner word.
use Rattle.std.specs.Prelude.{◌≡◌, ◌≢◌, ◌⊎◌, ⊤, ℕ, false, ◌<◌, ◌++◌, Option, Some, None, List, [], ◌∷◌, nat_eq, if◌then◌else◌}
use Rattle.lfm_model.specs.declared.answers.Asked.TheVariants as Asked
use Rattle.lfm_model.specs.declared.answers.How.{How}
use Rattle.lfm_model.specs.declared.answers.How.TheVariants.{Free, Queued}
use Rattle.lfm_model.specs.declared.answers.Locked.TheVariants as Locked
use Rattle.lfm_protocol.specs.declared.answers.Answer.TheVariants as Answer
use Rattle.lfm_protocol.specs.declared.answers.Call.TheVariants.{Lock, TryLock, Receive}
use Rattle.lfm_protocol.specs.declared.answers.Turn.{Turn}
use Rattle.lfm_protocol.specs.declared.answers.Turn.TheVariants.{Open, Ended}
use Rattle.lfm_protocol.specs.declared.kinds.Kind.{Kind}
use Rattle.lfm_protocol.specs.declared.kinds.Kind.TheVariants.{CountAdd, CountExchange, CountSubtract, OwnerLoad}
use Rattle.lfm_words.specs.declared.wakes.Wake.TheVariants.{Grant}
use Rattle.lfm_protocol.specs.Core.{Core}
use Rattle.lfm_protocol.specs.Points.{kind}
use Rattle.lfm_protocol.specs.Queue.{queue_of}
use Rattle.lfm_protocol.specs.Seats.{seat, wake}
use Rattle.lfm_protocol.specs.Step.{begin, step}
use Rattle.lfm_laws.specs.laws.Releases.{StaysInCall}
use Rattle.lfm_laws.specs.laws.Schedules.{Event, begins, makes, happens, run_of, is_call}
use Rattle.lfm_laws.specs.steady.Steady.{Steady}

-- Held by a queued record, or without one

-- what a step of seat s with this turn did to the queue: a lock that holds by a queued record took its own record; a lock or
-- try_lock that holds without one took none
abbrev pub HeldBy : Core → Core → ℕ → Turn → Type 0
HeldBy c d s (Ended (Answer.Asked (Asked.Held (Queued x)))) = queue_of c ≡ record { seat = s; stamp = x } ∷ queue_of d
HeldBy c d s (Ended (Answer.Asked (Asked.Held Free))) = queue_of d ≡ queue_of c
HeldBy c d s (Ended (Answer.Locked (Locked.Held how))) = (how ≡ Free) × (queue_of d ≡ queue_of c)
HeldBy c d s _ = ⊤

abbrev pub HoldersTookTheirRecord : Type 0
HoldersTookTheirRecord = (c : Core) (s : ℕ) → Steady c → HeldBy c (step c s).core s (step c s).turn

-- Held by a grant

-- this is the grant of a queued record with its stamp, or the free grant, whose stamp is 0
abbrev pub IsGrant : How → ℕ → Type 0
IsGrant Free stamp = stamp ≡ 0
IsGrant (Queued x) stamp = (stamp ≡ x) × (0 < x)

-- the wake word of seat s holds the grant
pub record FindsGrant (c : Core) (s : ℕ) (how : How) : Type 0 where
  pub stamp : ℕ
  pub word : wake c.wakes s ≡ Grant stamp
  pub grant : IsGrant how stamp

-- one of these events is a step of seat s that finds the grant in its wake word
abbrev pub HasLoaded : Core → ℕ → List Event → How → Type 0
HasLoaded c s [] how = ⊥
HasLoaded c s (e ∷ later) how = ((e ≡ makes s) × FindsGrant c s how) ⊎ HasLoaded (happens c e).core s later how

-- a receive that ends with this answer has loaded that grant, or found none with its last step
abbrev pub LoadedBy : Core → ℕ → List Event → Option How → Type 0
LoadedBy c s events (Some how) = HasLoaded c s events how
LoadedBy c s events None = (stamp : ℕ) → wake (run_of c events).wakes s ≢ Grant stamp

-- a receive that holds has loaded that grant, whatever the others do in between; one that does not hold found none
abbrev pub ReceiversLoadedTheirGrant : Type 0
ReceiversLoadedTheirGrant =
    (c : Core) (s : ℕ) (events : List Event) (how : Option How) → (begin c s Receive).turn ≡ Open → StaysInCall (begin c s Receive).core s events
    → (step (run_of (begin c s Receive).core events) s).turn ≡ Ended (Answer.Got how)
    → LoadedBy (begin c s Receive).core s events how

-- Held once more

-- the kinds of the steps of seat s among these events, until its open call ends
abbrev pub kinds_of_event : Core → ℕ → Event → List (Option Kind)
kinds_of_event c s (begins t call) = []
kinds_of_event c s (makes t) = if nat_eq t s then kind (seat c.seats s).point ∷ [] else []

abbrev pub kinds_of_call : Core → ℕ → List Event → List (Option Kind)
kinds_of_call c s [] = []
kinds_of_call c s (e ∷ later) =
    if is_call (seat c.seats s).point then kinds_of_event c s e ++ kinds_of_call (happens c e).core s later else []

-- a lock or try_lock of a seat that holds makes exactly these steps, whatever the others do in between: it never holds once
-- more without a load of the owner word
abbrev pub RecursiveCallsLoadTheOwner : Type 0
RecursiveCallsLoadTheOwner =
    (c : Core) (s : ℕ) (events : List Event) → Steady c → 0 < (seat c.seats s).depth
    → ((begin c s Lock).turn ≡ Open → is_call (seat (run_of (begin c s Lock).core events).seats s).point ≡ false
    → kinds_of_call (begin c s Lock).core s events ≡ Some CountAdd ∷ Some OwnerLoad ∷ Some CountSubtract ∷ [])
    × ((begin c s TryLock).turn ≡ Open → is_call (seat (run_of (begin c s TryLock).core events).seats s).point ≡ false
    → kinds_of_call (begin c s TryLock).core s events ≡ Some CountExchange ∷ Some OwnerLoad ∷ [])
