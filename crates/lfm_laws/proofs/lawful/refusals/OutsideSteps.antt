-- A step outside of a call changes nothing: its point has no kind, or no seat has the number.
use Rattle.std.proofs.Common.{◌≡◌, ◌⊎◌, ℕ, [], ◌∷◌, Option, None, refl, ap, inl, inr}
use Rattle.std.proofs.lemmas.Bool.{cases_Bool}
use Rattle.lfm_protocol.specs.declared.answers.Turn.TheVariants.{Refused}
use Rattle.lfm_protocol.specs.declared.answers.Why.TheVariants.{NoSuchSeat, Idle}
use Rattle.lfm_protocol.specs.declared.kinds.Kind.{Kind}
use Rattle.lfm_protocol.specs.Core.{Core}
use Rattle.lfm_protocol.specs.Points.{kind, target}
use Rattle.lfm_protocol.specs.Seats.{seat, is_seat}
use Rattle.lfm_protocol.specs.Step.{step, step_of}
use Rattle.lfm_laws.specs.laws.OutsideSteps.{IsOutside, StepsOutsideOfCallsChangeNothing, AnsweredOutside, RunsStayWithoutOutsideSteps}
use Rattle.lfm_laws.specs.laws.Schedules.{happens, run_of}
use Rattle.lfm_laws.proofs.lawful.refusals.RefusedTurns.{idle_kind, step_why}

of_no_kind : (c : Core) (s t : ℕ) (k : Option Kind) → k ≡ None → (step_of c s t k).core ≡ c
of_no_kind c s t k none = rw none refl

pub steps_outside_of_calls_change_nothing : StepsOutsideOfCallsChangeNothing
steps_outside_of_calls_change_nothing c s (inl none) = rw none refl
steps_outside_of_calls_change_nothing c s (inr outside) =
    elim (cases_Bool (is_seat c.seats s)) [
      | inl is ↦ rw is (of_no_kind c s (target (seat c.seats s).point s) (kind (seat c.seats s).point) (idle_kind (seat c.seats s).point outside))
      | inr none ↦ rw none refl
    ]

outside_of_turn : (c : Core) (s : ℕ) → ((step c s).turn ≡ Refused NoSuchSeat) ⊎ ((step c s).turn ≡ Refused Idle) → IsOutside c s
outside_of_turn c s (inl turn) =
    elim (cases_Bool (is_seat c.seats s)) [
      | inl is ↦ absurd (step_why c s NoSuchSeat (seat c.seats s).point refl (rw is at turn))
      | inr none ↦ inl none
    ]
outside_of_turn c s (inr turn) =
    elim (cases_Bool (is_seat c.seats s)) [
      | inl is ↦ inr (step_why c s Idle (seat c.seats s).point refl (rw is at turn))
      | inr none ↦ inl none
    ]

pub answered_outside : AnsweredOutside
answered_outside c s turn =
    let outside = outside_of_turn c s turn in (outside, steps_outside_of_calls_change_nothing c s outside)

pub runs_stay_without_outside_steps : RunsStayWithoutOutsideSteps
runs_stay_without_outside_steps c [] later s outside = ap (λ d. run_of d later) (steps_outside_of_calls_change_nothing c s outside)
runs_stay_without_outside_steps c (e ∷ before) later s outside = runs_stay_without_outside_steps (happens c e).core before later s outside
