-- Schedules in the laws: all lists of starts of calls and single steps, in any order and by any seats.
use Rattle.std.specs.Prelude.{ℕ, zero, suc, ◌++◌, Bool, true, false, ◌+◌, nat_eq, List, [], ◌∷◌, if◌then◌else◌}
use Rattle.lfm_protocol.specs.declared.answers.Call.{Call}
use Rattle.lfm_protocol.specs.declared.answers.Turn.TheVariants.{Open}
use Rattle.lfm_protocol.specs.declared.limits.Limits.{Limits}
use Rattle.lfm_protocol.specs.declared.points.Point.{Point}
use Rattle.lfm_protocol.specs.declared.points.Point.TheVariants.{Rest, Asleep}
use Rattle.lfm_words.specs.declared.pop_lists.Record.{Record}
use Rattle.lfm_protocol.specs.Core.{Core, Moved}
use Rattle.lfm_laws.specs.laws.Events.{pushed_by, popped_by, answered_by}
use Rattle.lfm_protocol.specs.Seats.{seat}
use Rattle.lfm_protocol.specs.Step.{begin, step, start}
use Rattle.lfm_protocol.specs.Turns.{is_open}

-- seat s begins a call, or makes the step at its point
pub data Event : Type 0 where
  begins : ℕ → Call → Event
  makes : ℕ → Event

abbrev pub happens : Core → Event → Moved
happens c (begins s call) = begin c s call
happens c (makes s) = step c s

-- the state after some events
abbrev pub run_of : Core → List Event → Core
run_of c [] = c
run_of c (e ∷ later) = run_of (happens c e).core later

-- the state that a mutex of these limits has reached after some events
abbrev pub reached : Limits → List Event → Core
reached limits events = run_of (start limits) events

-- at most this number of steps of seat s, ending early if its call ends or a step is refused
abbrev pub steps : ℕ → Core → ℕ → Moved
steps zero c s = record { core = c; turn = Open }
steps (suc most) c s = if is_open (step c s).turn then steps most (step c s).core s else step c s

-- The records of a run

abbrev pub pushed_in : Core → Event → List Record
pushed_in c (begins s call) = []
pushed_in c (makes s) = pushed_by c s

abbrev pub popped_in : Core → Event → List Record
popped_in c (begins s call) = []
popped_in c (makes s) = popped_by c s

abbrev pub answered_in : Core → Event → List Record
answered_in c (begins s call) = []
answered_in c (makes s) = answered_by s (step c s).turn

-- the seat and stamp of each push exchange that succeeded, in order
abbrev pub push_record : Core → List Event → List Record
push_record c [] = []
push_record c (e ∷ later) = pushed_in c e ++ push_record (happens c e).core later

-- the records in the order in which they left the queue
abbrev pub popped_record : Core → List Event → List Record
popped_record c [] = []
popped_record c (e ∷ later) = popped_in c e ++ popped_record (happens c e).core later

-- the seat and stamp of each answer Held(Queued), in order
abbrev pub answer_record : Core → List Event → List Record
answer_record c [] = []
answer_record c (e ∷ later) = answered_in c e ++ answer_record (happens c e).core later

-- The steps of one call

-- a call is open at this point
abbrev pub is_call : Point → Bool
is_call Rest = false
is_call (Asleep sleeper) = false
is_call _ = true

-- the weight of the event if it is a step of seat s, by the seat's point
abbrev pub weight_of : (Point → ℕ) → Core → ℕ → Event → ℕ
weight_of weight c s (begins t call) = 0
weight_of weight c s (makes t) = if nat_eq t s then weight (seat c.seats s).point else 0

-- the sum of these weights over the steps of the open call of seat s, until it ends
abbrev pub weight_of_call : (Point → ℕ) → Core → ℕ → List Event → ℕ
weight_of_call weight c s [] = 0
weight_of_call weight c s (e ∷ later) =
    if is_call (seat c.seats s).point then weight_of weight c s e + weight_of_call weight (happens c e).core s later else 0

-- how many steps the open call of seat s makes
abbrev pub steps_of_call : Core → ℕ → List Event → ℕ
steps_of_call c s events = weight_of_call (λ p. 1) c s events
