-- The ranges of the numbers in every steady state. They imply that no step wraps a number.
use Rattle.std.specs.Prelude.{◌≡◌, ℕ, ◌+◌, ◌*◌, ◌≤◌, List, length}
use Rattle.lfm_protocol.specs.declared.limits.Limits.{Limits}
use Rattle.lfm_protocol.specs.Core.{Core, limits}
use Rattle.lfm_protocol.specs.Limits.{max_budget, max_depth}
use Rattle.lfm_protocol.specs.Room.{HasRoom}
use Rattle.lfm_laws.specs.laws.Schedules.{Event, reached}
use Rattle.lfm_laws.specs.steady.Steady.{NumbersFit, Steady}
use Rattle.lfm_protocol.specs.Seats.{seat, IsSeat}

-- with N seats of budget B, the stamp is at most N * B and the count at most N + 1; each seat has at most 65,535 holds, has
-- charged at most B takes, and has posted at most as often as it has charged a take
pub record IsInRange (c : Core) : Type 0 where
  pub stamp : c.push.stamp ≤ length c.seats * c.budget
  pub count : c.count ≤ length c.seats + 1
  pub depth : (s : ℕ) → (seat c.seats s).depth ≤ max_depth
  pub takes : (s : ℕ) → (seat c.seats s).takes ≤ c.budget
  pub posts : (s : ℕ) → (seat c.seats s).posts ≤ (seat c.seats s).takes

abbrev pub NumbersStayInRange : Type 0
NumbersStayInRange = (c : Core) → Steady c → IsInRange c

-- if the stamp and the posts fit their words, the next step of each seat wraps no number, and the seats that it touches exist
abbrev pub StepsHaveRoom : Type 0
StepsHaveRoom = (c : Core) (s : ℕ) → Steady c → NumbersFit c → IsSeat c.seats s → HasRoom c s

-- under every budget within the limits they fit, so the next step of each seat has room
abbrev pub StepsHaveRoomInLimits : Type 0
StepsHaveRoomInLimits =
    (c : Core) → Steady c → c.budget ≤ max_budget → NumbersFit c × ((s : ℕ) → IsSeat c.seats s → HasRoom c s)

-- the number of seats and the budget stay those of the start
abbrev pub LimitsStay : Type 0
LimitsStay = (l : Limits) (events : List Event) → limits (reached l events) ≡ l
