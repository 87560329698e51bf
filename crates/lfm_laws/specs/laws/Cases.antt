-- The abstract case of each event, and what it means that one reading follows from another by a case.
use Rattle.std.specs.Prelude.{◌≡◌, ⊤, Option, Some, None, List, [], ◌∷◌}
use Rattle.lfm_model.specs.Abstract.{AbstractMutex, AbstractStep}
use Rattle.lfm_model.specs.AbstractRuns.{Case, IsSame, case_of}
use Rattle.lfm_protocol.specs.Core.{Core}
use Rattle.lfm_laws.specs.laws.Events.{case_of_step}
use Rattle.lfm_laws.specs.laws.Reading.{Reads}
use Rattle.lfm_laws.specs.laws.Schedules.{Event, begins, makes, happens}

-- the second abstract state follows from the first by a step of this case, or is the same if there is no case
abbrev pub GoesBy : Option Case → AbstractMutex → AbstractMutex → Type 0
GoesBy None a b = IsSame a b
GoesBy (Some case) a b = (step : AbstractStep a b) × (case_of step ≡ case)

-- the start of a call has no case, and a step has the case that its kind names
abbrev pub case_of_event : Core → Event → Option Case
case_of_event c (begins s call) = None
case_of_event c (makes s) = case_of_step c s

-- these abstract states are the readings after each event of a run, in order
abbrev pub ReadsRun : Core → List Event → List AbstractMutex → Type 0
ReadsRun c [] [] = ⊤
ReadsRun c [] (a ∷ later) = ⊥
ReadsRun c (e ∷ events) [] = ⊥
ReadsRun c (e ∷ events) (a ∷ later) = Reads (happens c e).core a × ReadsRun (happens c e).core events later
