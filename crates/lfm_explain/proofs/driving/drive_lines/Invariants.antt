use Rattle.std.specs.Prelude.{All}
use Rattle.lfm_mutex.specs.Belongs.{OfMutex}
use Rattle.lfm_explain.proofs.driving.drive_lines.Given as goal

-- the seats still belong to the mutex
abbrev pub invariant-driving : goal.invariant-driving
invariant-driving g l = All (λ s. OfMutex s l.mutex) l.seats
