-- The numbers of a seat's next step fit their words, and the seats that it names exist. Every steady state has room for each
-- step.
use Rattle.std.specs.Prelude.{ℕ, ◌+◌, ◌^◌, ◌<◌, ◌≤◌, Option, Some, length}
use Rattle.lfm_model.specs.SeatNumbers.{IsSeatNo}
use Rattle.lfm_protocol.specs.declared.kinds.Kind.{Kind}
use Rattle.lfm_protocol.specs.declared.kinds.Kind.TheVariants.{CountAdd, CountSubtract, LinkLoad}
use Rattle.lfm_protocol.specs.declared.points.Point.{Point}
use Rattle.lfm_protocol.specs.declared.points.Point.TheVariants.{LockCountSubtract, TryOwnerLoad, TryHandoffLoad, TryHandoffExchange, LinkStore, PushExchange, ReleaseHandoffStore, TakeLinkLoad}
use Rattle.lfm_protocol.specs.declared.seats.SeatState.{SeatState}
use Rattle.lfm_protocol.specs.Core.{Core}
use Rattle.lfm_protocol.specs.Points.{kind, target}
use Rattle.lfm_protocol.specs.Seats.{seat, IsSeat}

-- the seat's own numbers fit
abbrev pub HasNumbers : SeatState → Point → Type 0
HasNumbers x LockCountSubtract = x.depth + 1 < 2 ^ 32
HasNumbers x TryOwnerLoad = x.depth + 1 < 2 ^ 32
HasNumbers x TryHandoffLoad = 0 < x.takes
HasNumbers x (TryHandoffExchange seen) = 0 < x.takes
HasNumbers x (LinkStore pusher seen) = seen.stamp + 1 < 2 ^ 64
HasNumbers x (PushExchange pusher seen) = seen.stamp + 1 < 2 ^ 64
HasNumbers x (ReleaseHandoffStore releaser) = x.posts + 1 < 2 ^ 64
HasNumbers x (TakeLinkLoad carrier next) = IsSeatNo next
HasNumbers x _ = Unit {0}

-- the count fits
abbrev pub CountFits : ℕ → Option Kind → Type 0
CountFits count (Some CountAdd) = count + 1 < 2 ^ 64
CountFits count (Some CountSubtract) = 0 < count
CountFits count _ = Unit {0}

-- the number of popped records fits
abbrev pub PopFits : ℕ → ℕ → Option Kind → Type 0
PopFits popped seats (Some LinkLoad) = popped < seats
PopFits popped seats _ = Unit {0}

-- what the next step of seat s requires
-- numbers: its own numbers fit
-- counts: the count fits its word
-- pops: the pop list has room for the record that is added
-- touches: the seat whose word is accessed exists
pub record HasRoom (c : Core) (s : ℕ) : Type 0 where
  pub numbers : HasNumbers (seat c.seats s) (seat c.seats s).point
  pub counts : CountFits c.count (kind (seat c.seats s).point)
  pub pops : PopFits (length c.popped) (length c.seats) (kind (seat c.seats s).point)
  pub touches : IsSeat c.seats (target (seat c.seats s).point s)
