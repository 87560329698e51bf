-- The states of schedules are steady and narrow, each event keeps them so, and so does a step on a table.
use Rattle.std.proofs.Common.{◌≡◌, ◌≤◌, List, [], ◌∷◌, inl, inr, arith, ap, ◌∙◌}
use Rattle.std.proofs.lemmas.Bool.{cases_Bool}
use Rattle.lfm_protocol.specs.declared.limits.Limits.{Limits}
use Rattle.lfm_protocol.specs.Begin as Begin
use Rattle.lfm_protocol.specs.Core.{Core, limits}
use Rattle.lfm_laws.specs.laws.Schedules.{Event, begins, makes, happens, run_of}
use Rattle.lfm_laws.specs.laws.Steadiness.{StatesAreSteady, StepsKeepSteady, StepsAtATable, StepsAtATableInLimits, ReachedAreNarrow}
use Rattle.lfm_protocol.specs.Limits.{max_budget}
use Rattle.lfm_protocol.specs.Seats.{seat, is_seat}
use Rattle.lfm_protocol.specs.Step.{start}
use Rattle.lfm_laws.specs.steady.Ghost.{Ghost}
use Rattle.lfm_laws.specs.steady.Steady.{Fits}
use Rattle.lfm_laws.specs.table.Words.{AreNarrow}
use Rattle.lfm_laws.proofs.lawful.runs.LimitsKept.{budget-happens, limits_stay}
use Rattle.lfm_laws.proofs.lawful.runs.Reached.{event_goes, steady_reached}
use Rattle.lfm_laws.proofs.steady.Room.{numbers_fit}
use Rattle.lfm_laws.proofs.steady.Start.{at_start, start_fits}
use Rattle.lfm_laws.proofs.steady.frames.Seated.{seat_of_test}
use Rattle.lfm_laws.proofs.table.Made.{narrow_of_step}
use Rattle.lfm_laws.proofs.table.Narrow.{narrow_begin, narrow_with}
use Rattle.lfm_laws.proofs.table.Starts.{start_narrow}
use Rattle.lfm_laws.proofs.table.TableSteps.{table_step, table_step_in_limits}

pub states_are_steady : StatesAreSteady
states_are_steady c is = steady_reached c is

pub steps_keep_steady : StepsKeepSteady
steps_keep_steady c g e fits = event_goes c g e fits

pub steps_at_a_table : StepsAtATable
steps_at_a_table c g s p is fits narrow fit fit_after settles = table_step c g s p is fits narrow fit fit_after settles

pub steps_at_a_table_in_limits : StepsAtATableInLimits
steps_at_a_table_in_limits c g s p is fits narrow small settles = table_step_in_limits c g s p is fits narrow small settles

event_narrow : (c : Core) (g : Ghost) (e : Event) → Fits c g → c.budget ≤ max_budget → AreNarrow c.seats → AreNarrow (happens c e).core.seats
event_narrow c g (begins s call) fits small narrow =
    elim (cases_Bool (is_seat c.seats s)) [
      | inl is ↦
          let y = (Begin.begin (seat c.seats s) (limits c) call).seat in
          rw is (narrow_with c.seats s y (seat_of_test c.seats s is) (narrow_begin (seat c.seats s) (limits c) call (narrow s)) narrow)
      | inr none ↦ rw none narrow
    ]
event_narrow c g (makes s) fits small narrow =
    elim (cases_Bool (is_seat c.seats s)) [
      | inl is ↦ rw is (narrow_of_step c g s (seat_of_test c.seats s is) fits (numbers_fit c g fits small) narrow)
      | inr none ↦ rw none narrow
    ]

run_narrow : (c : Core) (g : Ghost) (events : List Event) → Fits c g → c.budget ≤ max_budget → AreNarrow c.seats → AreNarrow (run_of c events).seats
run_narrow c g [] fits small narrow = narrow
run_narrow c g (e ∷ later) fits small narrow =
    let goes = event_goes c g e fits in run_narrow (happens c e).core goes.to later goes.fits (let same = budget-happens c e in omega (arith, same, small)) (event_narrow c g e fits small narrow)

pub reached_are_narrow : ReachedAreNarrow
reached_are_narrow c is small =
    let same : c.budget ≡ is.limits.budget = ap (λ (d : Core). d.budget) is.here ∙ ap (λ (l : Limits). l.budget) (limits_stay is.limits is.events) in
    let fits : Fits (start is.limits) at_start = start_fits is.limits is.few in
    rw is.here (run_narrow (start is.limits) at_start is.events fits (omega (arith, same, small)) (start_narrow is.limits))
