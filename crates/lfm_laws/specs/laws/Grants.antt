-- How many grants a call stores. A sleeping seat is woken by its grant.
use Rattle.std.specs.Prelude.{ℕ, ◌≤◌, List}
use Rattle.lfm_protocol.specs.declared.points.Point.{Point}
use Rattle.lfm_protocol.specs.declared.points.Point.TheVariants.{GrantWakeStore, SendWakeStore}
use Rattle.lfm_protocol.specs.Core.{Core}
use Rattle.lfm_laws.specs.laws.Schedules.{Event, weight_of_call}
use Rattle.lfm_laws.specs.steady.Steady.{Steady}

-- two wake stores write a grant: one for the seat of the oldest record, and one for the target of a send that found the count
-- at 0
abbrev pub grant_weight : Point → ℕ
grant_weight (GrantWakeStore carrier oldest) = 1
grant_weight (SendWakeStore t) = 1
grant_weight _ = 0

-- a call grants at most once, whatever the others do in between
abbrev pub CallsGrantOnce : Type 0
CallsGrantOnce = (c : Core) (s : ℕ) (events : List Event) → Steady c → weight_of_call grant_weight c s events ≤ 1
