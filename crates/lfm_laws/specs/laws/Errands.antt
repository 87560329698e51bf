-- The errands of a call: the seat that it has counted and has yet to push, and the seat that a send has claimed and has yet to
-- count.
use Rattle.std.specs.Prelude.{◌≡◌, ℕ, ◌<◌, nat_eq, if◌then◌else◌}
use Rattle.lfm_protocol.specs.declared.points.Point.{Point}
use Rattle.lfm_protocol.specs.declared.points.Point.TheVariants.{LockOwnerLoad, SendCountAdd, PushLoad, LinkStore, PushExchange}
use Rattle.lfm_protocol.specs.declared.seats.SeatState.{SeatState}
use Rattle.lfm_protocol.specs.Core.{Core}
use Rattle.lfm_protocol.specs.Points.{pushed_seat}
use Rattle.lfm_protocol.specs.Seats.{seat}

-- the seat that seat s has counted and has yet to push, 0 for none
abbrev pub asks_for_at : ℕ → ℕ → Point → ℕ
asks_for_at depth s LockOwnerLoad = if nat_eq depth 0 then s else 0
asks_for_at depth s (PushLoad pusher) = pushed_seat pusher s
asks_for_at depth s (LinkStore pusher seen) = pushed_seat pusher s
asks_for_at depth s (PushExchange pusher seen) = pushed_seat pusher s
asks_for_at depth s _ = 0

abbrev pub asks_for : SeatState → ℕ → ℕ
asks_for x s = asks_for_at x.depth s x.point

-- the seat that a send has claimed and has yet to count, 0 for none
abbrev pub claims_for_at : Point → ℕ
claims_for_at (SendCountAdd t) = t
claims_for_at _ = 0

abbrev pub claims_for : SeatState → ℕ
claims_for x = claims_for_at x.point

-- seat x asks: its own lock or a send has counted it, by an add that did not find 0, and has not pushed it yet
pub record Asks (c : Core) (x : ℕ) : Type 0 where
  pub agent : ℕ
  pub some : 0 < x
  pub counts : asks_for (seat c.seats agent) agent ≡ x

-- a send has claimed seat x and has not counted it yet
pub record IsClaimedFor (c : Core) (x : ℕ) : Type 0 where
  pub agent : ℕ
  pub some : 0 < x
  pub claims : claims_for (seat c.seats agent) ≡ x
