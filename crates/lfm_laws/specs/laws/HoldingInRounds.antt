-- Starvation freedom until the seat holds: after how many rounds a seat that has its grant owns, and so a queued seat. Which
-- calls begin meanwhile, and in which order the seats make their steps, is arbitrary.
use Rattle.std.specs.Prelude.{◌≡◌, ◌⊎◌, ℕ, ◌+◌, ◌*◌, ◌++◌, List, [], ◌∷◌, length}
use Rattle.lfm_words.specs.declared.pop_lists.Record.{Record}
use Rattle.lfm_words.specs.declared.wakes.Wake.TheVariants.{Grant}
use Rattle.lfm_protocol.specs.Core.{Core}
use Rattle.lfm_protocol.specs.Queue.{queue_of}
use Rattle.lfm_protocol.specs.Seats.{wake}
use Rattle.lfm_laws.specs.laws.Laws.{IsReached}
use Rattle.lfm_laws.specs.laws.Rounds.{HasRounds, HasUnownedRounds}
use Rattle.lfm_laws.specs.laws.Schedules.{Event, happens}
use Rattle.lfm_laws.specs.steady.Steady.{Steady}

-- at some moment of these events seat s owns
abbrev pub OwnsIn : Core → ℕ → List Event → Type 0
OwnsIn c s [] = c.owner ≡ s
OwnsIn c s (e ∷ later) = (c.owner ≡ s) ⊎ OwnsIn (happens c e).core s later

-- a seat that has its grant owns within five rounds
abbrev pub GrantedSeatsHoldInRounds : Type 0
GrantedSeatsHoldInRounds =
    (c : Core) (events : List Event) (s stamp : ℕ) → Steady c → wake c.wakes s ≡ Grant stamp → HasRounds 5 c events → OwnsIn c s events

-- with N seats, the seat of a queued record with k before it owns within N + 8k + 11 rounds that begin while no seat owns
abbrev pub QueuedSeatsHoldInRounds : Type 0
QueuedSeatsHoldInRounds =
    (c : Core) (events : List Event) (first behind : List Record) (x : Record) → IsReached c → queue_of c ≡ first ++ (x ∷ behind)
    → HasUnownedRounds (length c.seats + 8 * length first + 11) c events → OwnsIn c x.seat events
