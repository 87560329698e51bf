-- What a seat may become without a step: by starts of calls that end at once, are refused or have not made their first step.
use Rattle.std.specs.Prelude.{◌≡◌, ℕ, List, [], ◌∷◌}
use Rattle.lfm_protocol.specs.declared.answers.Call.{Call}
use Rattle.lfm_protocol.specs.declared.limits.Limits.{Limits}
use Rattle.lfm_protocol.specs.declared.points.Point.TheVariants.{Rest}
use Rattle.lfm_protocol.specs.declared.seats.SeatState.{SeatState}
use Rattle.lfm_protocol.specs.Begin as Begin

-- the seat after it has begun these calls, the latest first
abbrev pub begun : SeatState → Limits → List Call → SeatState
begun x limits [] = x
begun x limits (call ∷ calls) = (Begin.begin (begun x limits calls) limits call).seat

-- p is such a state of a seat with state x
pub record Settles (x : SeatState) (limits : Limits) (p : SeatState) : Type 0 where
  pub calls : List Call
  pub leads : p ≡ begun x limits calls

-- a seat at rest that has spent its budget
abbrev pub spent : ℕ → SeatState
spent budget = record { depth = 0; takes = budget; posts = budget; point = Rest }
