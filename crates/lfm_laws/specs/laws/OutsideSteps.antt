-- Steps outside of calls: of a number that no seat has, or of a seat that has no call open. Each law here is a clause of a
-- public function of `lfm_laws`.
use Rattle.std.specs.Prelude.{◌≡◌, ◌⊎◌, ℕ, false, ◌++◌, List, ◌∷◌}
use Rattle.lfm_protocol.specs.declared.answers.Turn.TheVariants.{Refused}
use Rattle.lfm_protocol.specs.declared.answers.Why.TheVariants.{NoSuchSeat, Idle}
use Rattle.lfm_protocol.specs.Core.{Core}
use Rattle.lfm_protocol.specs.Seats.{seat, is_seat}
use Rattle.lfm_protocol.specs.Step.{step}
use Rattle.lfm_laws.specs.laws.Schedules.{Event, makes, run_of, is_call}

-- no seat has the number, or no call of the seat is open
abbrev pub IsOutside : Core → ℕ → Type 0
IsOutside c s = (is_seat c.seats s ≡ false) ⊎ (is_call (seat c.seats s).point ≡ false)

-- an outside step leaves the whole state unchanged: each word, each record and each seat
abbrev pub StepsOutsideOfCallsChangeNothing : Type 0
StepsOutsideOfCallsChangeNothing = (c : Core) (s : ℕ) → IsOutside c s → (step c s).core ≡ c

-- each step that is refused as NoSuchSeat or Idle is an outside step
abbrev pub AnsweredOutside : Type 0
AnsweredOutside =
    (c : Core) (s : ℕ) → ((step c s).turn ≡ Refused NoSuchSeat) ⊎ ((step c s).turn ≡ Refused Idle) → IsOutside c s × ((step c s).core ≡ c)

-- a run leads to the same state without its outside steps
abbrev pub RunsStayWithoutOutsideSteps : Type 0
RunsStayWithoutOutsideSteps =
    (c : Core) (before later : List Event) (s : ℕ) → IsOutside (run_of c before) s
    → run_of c (before ++ makes s ∷ later) ≡ run_of c (before ++ later)
