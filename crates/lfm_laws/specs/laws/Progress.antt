-- Lock freedom: how many steps an open call makes while others interleave, and how many all calls of a run make together. A
-- call repeats a step only if its push exchange has failed, and so only if another seat has changed the push word.
use Rattle.std.specs.Prelude.{◌≡◌, ◌⊎◌, ℕ, ◌+◌, ◌*◌, ◌<◌, ◌≤◌, List, [], ◌∷◌, length, nat_eq, if◌then◌else◌}
use Rattle.lfm_words.specs.declared.links.Link.{Link}
use Rattle.lfm_protocol.specs.After.{same_link}
use Rattle.lfm_protocol.specs.Core.{Core}
use Rattle.lfm_protocol.specs.Seats.{seat, unposted}
use Rattle.lfm_protocol.specs.Step.{begin, step}
use Rattle.lfm_laws.specs.laws.Laws.{IsQuiet, IsHeld, IsGranted}
use Rattle.lfm_laws.specs.laws.Schedules.{Event, begins, makes, happens, is_call, run_of, steps_of_call}
use Rattle.lfm_model.specs.Sums.{sum_to}
use Rattle.lfm_laws.specs.steady.Steady.{Steady}

-- One call

-- the push word has changed: a record was pushed, or a push list with records was cleared
abbrev pub changed_push : Link → Link → ℕ
changed_push before after = if same_link after before then 0 else 1

-- whether an event is a step by which a seat other than s changes the push word
abbrev pub changed_beside : Core → ℕ → Event → ℕ
changed_beside c s (begins t call) = 0
changed_beside c s (makes t) = if nat_eq t s then 0 else changed_push c.push (step c t).core.push

-- how often other seats change the push word until the open call of seat s ends
abbrev pub changes_beside : Core → ℕ → List Event → ℕ
changes_beside c s [] = 0
changes_beside c s (e ∷ later) =
    if is_call (seat c.seats s).point then changed_beside c s e + changes_beside (happens c e).core s later else 0

-- how often the open call of seat s changes the push word
abbrev pub changed_own : Core → ℕ → Event → ℕ
changed_own c s (begins t call) = 0
changed_own c s (makes t) = if nat_eq t s then changed_push c.push (step c t).core.push else 0

abbrev pub changes_of_call : Core → ℕ → List Event → ℕ
changes_of_call c s [] = 0
changes_of_call c s (e ∷ later) =
    if is_call (seat c.seats s).point then changed_own c s e + changes_of_call (happens c e).core s later else 0

-- an open call makes at most N + 9 steps, plus two for each time that another seat changes the push word meanwhile
abbrev pub CallsEndBesideOthers : Type 0
CallsEndBesideOthers =
    (c : Core) (s : ℕ) (events : List Event) → Steady c
    → steps_of_call c s events ≤ length c.seats + 9 + 2 * changes_beside c s events

-- an open call changes the push word at most twice itself
abbrev pub CallsChangeThePushWordTwice : Type 0
CallsChangeThePushWordTwice = (c : Core) (s : ℕ) (events : List Event) → Steady c → changes_of_call c s events ≤ 2

-- All calls of a run

-- how many calls are open
abbrev pub open_unit : Core → ℕ → ℕ
open_unit c s = if is_call (seat c.seats s).point then 1 else 0

abbrev pub open_calls : Core → ℕ
open_calls c = sum_to (open_unit c) (length c.seats)

-- whether an event is a step of an open call
abbrev pub stepped_in : Core → Event → ℕ
stepped_in c (begins s call) = 0
stepped_in c (makes s) = open_unit c s

-- whether seat s has a call open in the second state and none in the first
abbrev pub opened_at : Core → Core → ℕ → ℕ
opened_at c d s = if is_call (seat c.seats s).point then 0 else open_unit d s

-- whether an event opens a call
abbrev pub opened_in : Core → Event → ℕ
opened_in c (begins s call) = opened_at c (begin c s call).core s
opened_in c (makes s) = 0

-- whether an event is a step that ends a call, by an answer or a refusal
abbrev pub ended_in : Core → Event → ℕ
ended_in c (begins s call) = 0
ended_in c (makes s) = opened_at (step c s).core c s

-- the sums of these over a run
abbrev pub steps_of_run : Core → List Event → ℕ
steps_of_run c [] = 0
steps_of_run c (e ∷ later) = stepped_in c e + steps_of_run (happens c e).core later

abbrev pub opened_in_run : Core → List Event → ℕ
opened_in_run c [] = 0
opened_in_run c (e ∷ later) = opened_in c e + opened_in_run (happens c e).core later

abbrev pub ended_in_run : Core → List Event → ℕ
ended_in_run c [] = 0
ended_in_run c (e ∷ later) = ended_in c e + ended_in_run (happens c e).core later

-- with N seats, the calls that were open before a run and those that open in it together make at most 5N + 5 steps per call
abbrev pub CallsShareTheirSteps : Type 0
CallsShareTheirSteps =
    (c : Core) (events : List Event) → Steady c
    → steps_of_run c events ≤ (5 * length c.seats + 5) * (open_calls c + opened_in_run c events)

-- so among any 5N(N + 1) + 1 steps of calls, some call ends
abbrev pub SomeCallEnds : Type 0
SomeCallEnds =
    (c : Core) (events : List Event) → Steady c
    → steps_of_run c events ≤ (5 * length c.seats + 5) * (length c.seats + ended_in_run c events)

-- No state is stuck

-- one step of each of these seats, in this order
abbrev pub all_make : List ℕ → List Event
all_make [] = []
all_make (s ∷ later) = makes s ∷ all_make later

-- some sequence of steps, at most 5N + 5 per open call, leads to a state without an open call. Nothing is posted there, and if
-- the count is above 0 a seat owns or a sleeping seat has its grant
pub record ComesToRest (c : Core) : Type 0 where
  pub seats : List ℕ
  pub few : length seats ≤ (5 * length c.seats + 5) * open_calls c
  pub quiet : IsQuiet (run_of c (all_make seats))
  pub nothing_posted : (run_of c (all_make seats)).handoff ≡ unposted
  pub owned_or_granted : 0 < (run_of c (all_make seats)).count → IsHeld (run_of c (all_make seats)) ⊎ IsGranted (run_of c (all_make seats))

abbrev pub NoStateIsStuck : Type 0
NoStateIsStuck = (c : Core) → Steady c → ComesToRest c
