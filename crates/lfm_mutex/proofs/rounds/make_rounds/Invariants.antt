use Rattle.lfm_mutex.specs.Belongs.{OfMutex}
use Rattle.lfm_mutex.specs.calls.Sections.{StandsAs}
use Rattle.lfm_mutex.specs.calls.Sight.{sight}
use Rattle.lfm_mutex.specs.Rounds.{RoundsLead}
use Rattle.lfm_mutex.proofs.rounds.make_rounds.Given as goal

-- the seat is still one of the mutex, with the same number and depth, asleep as before, and the rounds so far have led to it
abbrev pub invariant-rounds : goal.invariant-rounds
invariant-rounds g l = OfMutex l.seat l.mutex × StandsAs (sight l.fn.seat) (sight l.seat) × RoundsLead g.F.Fn l.f l.round l.fn.seat l.seat
