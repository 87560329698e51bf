use Rattle.std.proofs.Common.{◌≡◌}
use Rattle.lfm_mutex.specs.Belongs.{OfMutex}
use Rattle.example_counter.proofs.work.Given as goal

-- the seat is one of the mutex, and the share has added 1 in each round
abbrev pub invariant-loop-round : goal.invariant-loop-round
invariant-loop-round g l = OfMutex l.seat l.mutex × (l.share.parts ≡ 1) × (l.share.amount ≡ l._round)
