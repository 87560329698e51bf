-- Before the push: after how many rounds a call has pushed the seat that it has counted. Only pushes of others delay it, and
-- the budgets bound how many there are.
use Rattle.std.specs.Prelude.{◌≡◌, ◌⊎◌, ℕ, ◌+◌, ◌*◌, ◌<◌, List, [], ◌∷◌, length}
use Rattle.lfm_protocol.specs.Core.{Core}
use Rattle.lfm_protocol.specs.Seats.{seat}
use Rattle.lfm_laws.specs.laws.Errands.{asks_for}
use Rattle.lfm_laws.specs.laws.Events.{pushed_by}
use Rattle.lfm_laws.specs.laws.Laws.{IsReached}
use Rattle.lfm_laws.specs.laws.Rounds.{HasRounds}
use Rattle.lfm_laws.specs.laws.Schedules.{Event, begins, makes, happens, push_record}

-- by this event the call of seat s pushes
abbrev pub PushesBy : Core → ℕ → Event → Type 0
PushesBy c s (begins t call) = ⊥
PushesBy c s (makes t) = (t ≡ s) × (0 < length (pushed_by c s))

-- by one of these events the call of seat s pushes
abbrev pub PushesIn : Core → ℕ → List Event → Type 0
PushesIn c s [] = ⊥
PushesIn c s (e ∷ later) = PushesBy c s e ⊎ PushesIn (happens c e).core s later

-- a call that has counted a seat and has yet to push it pushes in 4p + 6 rounds, p being the number of records that are
-- pushed in these events: a push of another seat, and the clear of its push list, delay it by at most two rounds each
abbrev pub CountedSeatsArePushedInRounds : Type 0
CountedSeatsArePushedInRounds =
    (c : Core) (events : List Event) (s : ℕ) → IsReached c → 0 < asks_for (seat c.seats s) s
    → HasRounds (4 * length (push_record c events) + 6) c events → PushesIn c s events

-- with N seats of budget B, it pushes in 4NB + 2 rounds, however many records the others push meanwhile
abbrev pub CountedSeatsArePushedWithinBudgets : Type 0
CountedSeatsArePushedWithinBudgets =
    (c : Core) (events : List Event) (s : ℕ) → IsReached c → 0 < asks_for (seat c.seats s) s
    → HasRounds (4 * (length c.seats * c.budget) + 2) c events → PushesIn c s events
