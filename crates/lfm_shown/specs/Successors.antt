-- The events of a state, the state after each, and what is shown of it.
use Rattle.std.specs.Prelude.{ℕ, ◌≡◌, Option, Some, None}
use Rattle.lfm_core.specs.declared.text.schedule.Act.{Act}
use Rattle.lfm_core.specs.declared.text.schedule.Act.TheVariants.{Begin as BeginAct, Steps}
use Rattle.lfm_laws.specs.laws.Events.{case_of_step}
use Rattle.lfm_protocol.specs.Core.{Core, Moved}
use Rattle.lfm_protocol.specs.Place.{place_of}
use Rattle.lfm_protocol.specs.Points.{kind, target, word}
use Rattle.lfm_protocol.specs.Seats.{seat}
use Rattle.lfm_protocol.specs.Step.{begin, step}
use Rattle.lfm_protocol.specs.declared.answers.Call.{Call}
use Rattle.lfm_shown.specs.Cases.{abstract_case}
use Rattle.lfm_shown.specs.Plain.{plain_of}
use Rattle.lfm_shown.specs.Values.{word_value}
use Rattle.lfm_shown.specs.declared.events.ShownStart.{ShownStart}
use Rattle.lfm_shown.specs.declared.events.ShownStep.{ShownStep}
use Rattle.lfm_shown.specs.declared.successors.Event.{Event}
use Rattle.lfm_shown.specs.declared.successors.Event.TheVariants.{Begin, Step}
use Rattle.lfm_shown.specs.declared.successors.Shown.{Shown}

abbrev pub seat_of : Event → ℕ
seat_of (Begin s call) = s
seat_of (Step s) = s

-- as in a line of a schedule
abbrev pub act_of : Event → Act
act_of (Begin s call) = BeginAct call
act_of (Step s) = Steps 1

-- the state after an event, and its outcome: those of the turn of the core that it names
abbrev pub happens : Core → Event → Moved
happens c (Begin s call) = begin c s call
happens c (Step s) = step c s

-- a start of a call in this state is shown: the call, its outcome, and the plain data of the seat before and after it
pub record ShowsStart (c : Core) (s : ℕ) (call : Call) (shown : ShownStart) : Type 0 where
  pub call_is : shown.call ≡ call
  pub turn_is : shown.turn ≡ (begin c s call).turn
  pub before_is : shown.before ≡ plain_of c s
  pub after_is : shown.after ≡ plain_of (begin c s call).core s

-- A step in this state is shown: its point, kind and word, what the word holds before and after it, its abstract case, the place
-- of the responsibility after it, and the plain data of the seat before and after it.
pub record ShowsStep (c : Core) (s : ℕ) (shown : ShownStep) : Type 0 where
  pub point_is : shown.coming.point ≡ (seat c.seats s).point
  pub kind_is : kind (seat c.seats s).point ≡ Some shown.coming.kind
  pub word_is : shown.coming.word ≡ word shown.coming.kind (target (seat c.seats s).point s)
  pub found_is : shown.coming.found ≡ word_value c shown.coming.word
  pub case_is : abstract_case shown.coming.case ≡ case_of_step c s
  pub holds_is : shown.holds ≡ word_value (step c s).core shown.coming.word
  pub place_is : shown.place ≡ place_of (step c s).core
  pub before_is : shown.before ≡ plain_of c s
  pub after_is : shown.after ≡ plain_of (step c s).core s

-- nothing is shown of a step only if no call of the seat is open
abbrev pub ShowsMade : Core → ℕ → Option ShownStep → Type 0
ShowsMade c s None = kind (seat c.seats s).point ≡ None
ShowsMade c s (Some shown) = ShowsStep c s shown

-- what is shown of this event in this state
abbrev pub Shows : Core → Event → Shown → Type 0
Shows c (Begin s call) (Shown.Start shown) = ShowsStart c s call shown
Shows c (Begin s call) (Shown.Step shown) = ⊥
Shows c (Step s) (Shown.Start shown) = ⊥
Shows c (Step s) (Shown.Step shown) = ShowsMade c s shown
