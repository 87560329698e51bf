-- What the proofs of a running mutex use: every reached state is steady, and each turn keeps a state steady, by the one
-- abstract case of its step; a step touches and depends on one word, one seat and the pop list; and the same holds on a table
-- of packed words.
use Rattle.std.specs.Prelude.{◌≡◌, ◌≤◌, ℕ, length, slice_index}
use Rattle.lfm_protocol.specs.declared.answers.Call.{Call}
use Rattle.lfm_protocol.specs.declared.seats.SeatState.{SeatState}
use Rattle.lfm_laws.specs.laws.Cases.{case_of_event}
use Rattle.lfm_protocol.specs.Core.{Core, limits, put}
use Rattle.lfm_protocol.specs.Limits.{max_budget}
use Rattle.lfm_laws.specs.laws.Laws.{IsReached}
use Rattle.lfm_laws.specs.laws.Schedules.{Event, happens, pushed_in, popped_in, answered_in}
use Rattle.lfm_laws.specs.laws.Touched.{StepTouches, BeginTouches, LooksSame}
use Rattle.lfm_protocol.specs.Seats.{seat, IsSeat}
use Rattle.lfm_laws.specs.steady.Ghost.{Ghost}
use Rattle.lfm_laws.specs.steady.EventOutcome.{EventOutcome}
use Rattle.lfm_laws.specs.steady.Steady.{Fits, NumbersFit, Steady}
use Rattle.lfm_protocol.specs.Step.{begin, made, step}
use Rattle.lfm_laws.specs.table.Carried.{TableStep}
use Rattle.lfm_laws.specs.table.Settles.{Settles}
use Rattle.lfm_laws.specs.table.Words.{words, index, AreNarrow}

-- the states of schedules

abbrev pub StatesAreSteady : Type 0
StatesAreSteady = (c : Core) → IsReached c → Steady c

-- if some ghost fits a state, the start of a call and a step lead to a state that a ghost fits, and the one abstract case of
-- the event leads from the first ghost to the second
abbrev pub StepsKeepSteady : Type 0
StepsKeepSteady =
    (c : Core) (g : Ghost) (e : Event) → Fits c g
    → EventOutcome g (happens c e).core (case_of_event c e) (pushed_in c e) (popped_in c e) (answered_in c e)

-- one word, one seat and the pop list

abbrev pub StepsTouchOneWordAndOneSeat : Type 0
StepsTouchOneWordAndOneSeat = (c : Core) (s : ℕ) → StepTouches c (step c s).core s

abbrev pub BeginsTouchOneSeat : Type 0
BeginsTouchOneSeat = (c : Core) (s : ℕ) (call : Call) → BeginTouches c (begin c s call).core s

-- if these are the same in two states, the step answers the same and leads its seat to the same state
abbrev pub StepsSeeOneWordAndOneSeat : Type 0
StepsSeeOneWordAndOneSeat =
    (c d : Core) (s : ℕ) → IsSeat c.seats s → IsSeat d.seats s → LooksSame c d s
    → ((step d s).turn ≡ (step c s).turn) × (seat (step d s).core.seats s ≡ seat (step c s).core.seats s)

-- on a table of packed words

-- a seat that has become p reads the number at the index of its word; stamp and posts fit their words before and after the step
abbrev pub StepsAtATable : Type 0
StepsAtATable =
    (c : Core) (g : Ghost) (s : ℕ) (p : SeatState) → IsSeat c.seats s → Fits c g → AreNarrow c.seats
    → NumbersFit c → NumbersFit (made (put c s p) s).core → Settles (seat c.seats s) (limits c) p
    → TableStep c g s p (slice_index (words c) (index p (length c.seats) s))

-- under every budget within the limits they do
abbrev pub StepsAtATableInLimits : Type 0
StepsAtATableInLimits =
    (c : Core) (g : Ghost) (s : ℕ) (p : SeatState) → IsSeat c.seats s → Fits c g → AreNarrow c.seats
    → c.budget ≤ max_budget → Settles (seat c.seats s) (limits c) p
    → TableStep c g s p (slice_index (words c) (index p (length c.seats) s))

-- seat numbers are narrow in every state that a schedule reaches under such a budget
abbrev pub ReachedAreNarrow : Type 0
ReachedAreNarrow = (c : Core) → IsReached c → c.budget ≤ max_budget → AreNarrow c.seats
