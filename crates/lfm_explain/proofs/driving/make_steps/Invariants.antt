use Rattle.lfm_mutex.specs.Belongs.{Beside, OfMutex}
use Rattle.lfm_explain.proofs.driving.make_steps.Given as goal

-- the seat still belongs to the mutex
abbrev pub invariant-stepping : goal.invariant-stepping
invariant-stepping l = OfMutex l.seat l.mutex × Beside l.fn.seat l.seat
