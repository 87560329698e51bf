use Rattle.std.proofs.Common.{[], ◌∷◌, arith}
use Rattle.lfm_plain_condvar.proofs.parkers.Parkers.notify_before_wake.Goals as goal

pub returns-in-GoesOn-clause-parked : goal.returns-in-GoesOn-clause-parked
returns-in-GoesOn-clause-parked c = ((omega arith, omega arith), ([], c.in-GoesOn.ensures.parked, tt))

pub returns-in-Parked-clause-parked : goal.returns-in-Parked-clause-parked
returns-in-Parked-clause-parked c = let a = c.add.ensures in (a.wider, (c.in-Parked.thread.number ∷ [], c.in-Parked.ensures.parked, (a.inside.0, a.inside.1, tt)))
