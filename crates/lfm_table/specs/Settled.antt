-- What the data of a seat may have become without a step, as one equation: the calls that lead there follow from the data
-- before and after.
use Rattle.std.specs.Prelude.{◌≡◌, ◌≤◌, ℕ, zero, suc, ◌-◌, List, [], ◌∷◌}
use Rattle.lfm_protocol.specs.declared.answers.Call.{Call}
use Rattle.lfm_protocol.specs.declared.answers.Call.TheVariants.{Lock, TryLock, Unlock, StartWait, SendLock, Receive}
use Rattle.lfm_protocol.specs.declared.limits.Limits.{Limits}
use Rattle.lfm_protocol.specs.declared.points.Point.{Point}
use Rattle.lfm_protocol.specs.declared.points.Point.TheVariants.{LockCountAdd, TryCountExchange, ReleaseOwnerStore, SendWakeExchange, ReceiveWakeLoad}
use Rattle.lfm_protocol.specs.declared.points.Releaser.TheVariants.{Unlocker, Waiter}
use Rattle.lfm_protocol.specs.declared.seats.SeatState.{SeatState}
use Rattle.lfm_laws.specs.table.Settles.{begun}

-- this many calls of unlock
abbrev pub unlocks : ℕ → List Call
unlocks zero = []
unlocks (suc n) = Unlock ∷ unlocks n

-- these calls, and then the call that is open at this point before its first step
abbrev pub opened : Point → List Call → List Call
opened LockCountAdd calls = Lock ∷ calls
opened TryCountExchange calls = TryLock ∷ calls
opened (ReleaseOwnerStore Unlocker) calls = Unlock ∷ calls
opened (ReleaseOwnerStore Waiter) calls = StartWait ∷ calls
opened (SendWakeExchange t) calls = SendLock t ∷ calls
opened (ReceiveWakeLoad sleeper) calls = Receive ∷ calls
opened _ calls = calls

-- the calls by which the data x of a seat became p, the latest first
abbrev pub calls_to : SeatState → SeatState → List Call
calls_to x p = opened p.point (unlocks (x.depth - p.depth))

pub record Became (x : SeatState) (limits : Limits) (p : SeatState) : Type 0 where
  pub deep : p.depth ≤ x.depth
  pub leads : p ≡ begun x limits (calls_to x p)
