-- The parties of a desk, and how they left the request.
use Rattle.std.specs.Prelude.{◌≡◌, ℕ, List, Some}
use mathlib.Core.Option.{some}
use lib.ListN.{get_elem?}
use Rattle.lfm_mutex.specs.Belongs.{OfMutex}
use Rattle.lfm_mutex.specs.calls.Sight.{sight}
use Rattle.lfm_plain_condvar.specs.Belongs.{OfPlain}
use Rattle.example_time_limit.specs.declared.desk.Desk.{Desk}
use Rattle.example_time_limit.specs.declared.desk.Party.{Party}
use Rattle.example_time_limit.specs.declared.request.Request.{Request}

-- its seats are of this desk
abbrev pub IsOf : Party → Desk → Type 0
IsOf p d = OfMutex p.seat d.request × OfPlain p.waits d.changed

-- it doesn't hold the mutex
abbrev pub IsOut : Party → Type 0
IsOut p = (sight p.seat).depth ≡ 0

-- it is of this desk, and doesn't hold the mutex
abbrev pub IsReady : Party → Desk → Type 0
IsReady p d = IsOf p d × IsOut p

-- each of these parties is
abbrev pub AreReady : List Party → Desk → Type 0
AreReady parties d = (j : ℕ) (p : Party) → get_elem? parties j ≡ some p → IsReady p d

-- it doesn't hold the mutex, and it left the request so
abbrev pub HasLeft : Party → Request → Type 0
HasLeft p r = IsOut p × ((sight p.seat).last ≡ Some r)

-- it is of this desk, doesn't hold the mutex, and left the request answered
abbrev pub IsDone : Party → Desk → Type 0
IsDone p d = IsOf p d × HasLeft p Request.Answered
