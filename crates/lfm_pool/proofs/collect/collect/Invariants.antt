use Rattle.std.proofs.Common.{◌≡◌, ◌-◌, length}
use Rattle.lfm_protocol.specs.declared.points.Carrier.{Carrier}
use Rattle.lfm_protocol.specs.declared.points.Point.TheVariants.{TakeLinkLoad}
use Rattle.lfm_pool.specs.Seats.{popped_of, state_of}
use Rattle.lfm_pool.proofs.Walking.{Walking}
use Rattle.lfm_pool.proofs.collect.collect.Given as goal

abbrev pub invariant-walk : goal.invariant-walk
invariant-walk l = record {
  walk : (carrier : Carrier) × ((state_of l.fn.seat l.mutex).point ≡ TakeLinkLoad carrier l.fn.head) × Walking l.pool l.fn.seat l.seat l.mutex carrier l.fn.head l.target l.newer;
}

abbrev pub decreases-walk : goal.decreases-walk
decreases-walk l = l.pool.limits.seats - length (popped_of l.seat l.mutex)
