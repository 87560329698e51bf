-- That somebody can go on while a record is queued, and how soon it is served if only calls that serve it begin.
use Rattle.std.specs.Prelude.{◌≡◌, ⊤, ℕ, true, ◌+◌, ◌*◌, ◌<◌, ◌≤◌, List, [], ◌∷◌, length}
use Rattle.lfm_protocol.specs.declared.answers.Call.TheVariants.{Unlock, Receive}
use Rattle.lfm_protocol.specs.declared.points.Point.TheVariants.{Rest, Asleep}
use Rattle.lfm_protocol.specs.declared.points.Sleeper.{Sleeper}
use Rattle.lfm_words.specs.declared.wakes.Wake.TheVariants.{Grant}
use Rattle.lfm_protocol.specs.Core.{Core}
use Rattle.lfm_protocol.specs.Queue.{queue_of}
use Rattle.lfm_protocol.specs.Seats.{seat, wake}
use Rattle.lfm_laws.specs.laws.Progress.{open_calls, steps_of_run}
use Rattle.lfm_laws.specs.laws.Schedules.{Event, begins, makes, happens, is_call, popped_record}
use Rattle.lfm_laws.specs.steady.Steady.{Steady}

-- an event that is a step, the start of an unlock, or the start of a receive by a seat that has its grant
abbrev pub Serves : Core → Event → Type 0
Serves c (makes s) = ⊤
Serves c (begins s Unlock) = ⊤
Serves c (begins s Receive) = (stamp : ℕ) × (wake c.wakes s ≡ Grant stamp)
Serves c (begins s call) = ⊥

-- all events of a run serve
abbrev pub OnlyServes : Core → List Event → Type 0
OnlyServes c [] = ⊤
OnlyServes c (e ∷ later) = Serves c e × OnlyServes (happens c e).core later

-- if all events serve, calls make at most this many steps while a queued record with k before it has not left the queue: 5N + 5
-- for each open call, for each unlock and receive that serve a record before it, and for two more
abbrev pub QueuedSeatsAreServedSoon : Type 0
QueuedSeatsAreServedSoon =
    (c : Core) (events : List Event) (k : ℕ) → Steady c → k < length (queue_of c) → OnlyServes c events → length (popped_record c events) ≤ k
    → steps_of_run c events ≤ (5 * length c.seats + 5) * (open_calls c + 2 * k + 2)

-- so once calls have made more steps than that, the record has left the queue
abbrev pub StepsServe : Type 0
StepsServe =
    (c : Core) (events : List Event) (k : ℕ) → Steady c → k < length (queue_of c) → OnlyServes c events
    → (5 * length c.seats + 5) * (open_calls c + 2 * k + 2) < steps_of_run c events → k < length (popped_record c events)

-- an event that serves and is possible: a step of an open call, the start of an unlock by a seat that holds and has no call
-- open, or the start of a receive by a sleeping seat that has its grant
abbrev pub CanServe : Core → Event → Type 0
CanServe c (makes s) = is_call (seat c.seats s).point ≡ true
CanServe c (begins s Unlock) = ((seat c.seats s).point ≡ Rest) × (0 < (seat c.seats s).depth)
CanServe c (begins s Receive) =
    ((since : Sleeper) × ((seat c.seats s).point ≡ Asleep since)) × ((stamp : ℕ) × (wake c.wakes s ≡ Grant stamp))
CanServe c (begins s call) = ⊥

-- while a record is queued the count is above 0, and while the count is above 0 some event that serves is possible
abbrev pub SomebodyCanServe : Type 0
SomebodyCanServe =
    (c : Core) → Steady c → (0 < length (queue_of c) → 0 < c.count) × (0 < c.count → (e : Event) × CanServe c e)
