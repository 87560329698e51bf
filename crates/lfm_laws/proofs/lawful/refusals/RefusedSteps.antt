-- A step is refused only for its cause; its call has then ended, and only its seat has changed.
use Rattle.std.proofs.Common.{◌≡◌, ◌≢◌, ℕ, refl, sym, ◌∙◌, inl, inr, arith}
use Rattle.std.proofs.lemmas.Bool.{cases_Bool, cases_eq, eq-eqb, ne_eqb}
use Rattle.lfm_model.specs.declared.refusals.Refusal.{Refusal}
use Rattle.lfm_protocol.specs.declared.answers.Turn.TheVariants.{Refused}
use Rattle.lfm_protocol.specs.declared.answers.Why.{Why}
use Rattle.lfm_protocol.specs.declared.answers.Why.TheVariants.{By}
use Rattle.lfm_protocol.specs.declared.points.Point.{Point}
use Rattle.lfm_protocol.specs.declared.points.Point.TheVariants.{Rest, Asleep, TryCountExchange, TryOwnerLoad, TryHandoffLoad, TryHandoffExchange, SendWakeExchange}
use Rattle.lfm_words.specs.declared.handoffs.Handoff.{Handoff}
use Rattle.lfm_words.specs.declared.wakes.Wake.{Wake}
use Rattle.lfm_protocol.specs.After.{same_handoff}
use Rattle.lfm_protocol.specs.Core.{Core, put}
use Rattle.lfm_laws.specs.steady.Ghost.{Ghost}
use Rattle.lfm_laws.specs.laws.Refusals.{CauseOfStep, ended_by, WasCharged, StepsAreRefusedForCause}
use Rattle.lfm_protocol.specs.Seats.{seat, wake, is_seat}
use Rattle.lfm_laws.specs.steady.Steady.{Fits, Steady}
use Rattle.lfm_protocol.specs.Step.{made, step}
use Rattle.lfm_laws.proofs.steady.frames.Seated.{test_of_seat}
use Rattle.lfm_laws.proofs.lawful.refusals.PlainSteps.{plain_at, turn_made}
use Rattle.lfm_laws.proofs.lawful.refusals.RefusedCalls.{same_refusal, open_refused}
use Rattle.lfm_laws.proofs.steady.frames.Seated.{seat_of_point}

-- what is known of a refused step
abbrev pub RefusedFor : Core → ℕ → Point → Refusal → Type 0
RefusedFor c s p refusal =
    CauseOfStep c p refusal × WasCharged refusal (seat c.seats s) × ((made c s).core ≡ put c s (ended_by refusal (seat c.seats s)))

-- A try_lock that finds the mutex busy

handoff_load_refused : (c : Core) (g : Ghost) (s : ℕ) (refusal : Refusal) → (seat c.seats s).point ≡ TryHandoffLoad → Fits c g
    → (made c s).turn ≡ Refused (By refusal) → RefusedFor c s TryHandoffLoad refusal
handoff_load_refused c g s refusal at fits turn =
    elim (cases_eq c.handoff.seat 0) [
      | inl none ↦
          let e = same_refusal Refusal.Busy refusal (rw (at, at, eq-eqb c.handoff.seat 0 none) at turn) in
          let paid = rw at at (fits.each s).pushes in
          rw (sym e) (none, omega (arith, paid), rw (at, at, eq-eqb c.handoff.seat 0 none) refl)
      | inr some ↦ absurd (open_refused refusal (rw (at, at, ne_eqb c.handoff.seat 0 some) at turn))
    ]

exchange_refused : (c : Core) (g : Ghost) (s : ℕ) (seen : Handoff) (refusal : Refusal) → (seat c.seats s).point ≡ TryHandoffExchange seen → Fits c g
    → (made c s).turn ≡ Refused (By refusal) → RefusedFor c s (TryHandoffExchange seen) refusal
exchange_refused c g s seen refusal at fits turn =
    elim (cases_Bool (same_handoff c.handoff seen)) [
      | inl same ↦ absurd (open_refused refusal (rw (at, at, same) at turn))
      | inr other ↦
          let e = same_refusal Refusal.Busy refusal (rw (at, at, other) at turn) in
          let paid = rw at at (fits.each s).pushes in
          rw (sym e) (other, omega (arith, paid), rw (at, at, other) refl)
    ]

owner_unrefused : (c : Core) (s : ℕ) (refusal : Refusal) → (seat c.seats s).point ≡ TryOwnerLoad → (made c s).turn ≡ Refused (By refusal) → ⊥
owner_unrefused c s refusal at turn =
    elim (cases_eq c.owner s) [
      | inl own ↦ let f = rw (at, at, eq-eqb c.owner s own) at turn in cc
      | inr other ↦ open_refused refusal (rw (at, at, ne_eqb c.owner s other) at turn)
    ]

-- A send whose target does not wait

send_refused : (c : Core) (s t : ℕ) (refusal : Refusal) (w : Wake) → (seat c.seats s).point ≡ SendWakeExchange t → wake c.wakes t ≡ w
    → (made c s).turn ≡ Refused (By refusal) → RefusedFor c s (SendWakeExchange t) refusal
send_refused c s t refusal Wake.Waiting at word turn = absurd (open_refused refusal (rw (at, at, word) at turn))
send_refused c s t refusal _ at word turn =
    let e = same_refusal Refusal.NotWaiting refusal (rw (at, at, word) at turn) in
    rw (sym e) (λ waiting. let f = sym word ∙ waiting in cc, tt, rw (at, at, word) refl)

idle_refused : (refusal : Refusal) → Refused Why.Idle ≡ Refused (By refusal) → ⊥
idle_refused refusal e = cc

-- No other step is refused

made_refused : (c : Core) (g : Ghost) (s : ℕ) (refusal : Refusal) (p : Point) → (seat c.seats s).point ≡ p → Fits c g
    → (made c s).turn ≡ Refused (By refusal) → RefusedFor c s p refusal
made_refused c g s refusal Rest at fits turn = absurd (idle_refused refusal (rw at at turn))
made_refused c g s refusal (Asleep sleeper) at fits turn = absurd (idle_refused refusal (rw at at turn))
made_refused c g s refusal TryCountExchange at fits turn = absurd (open_refused refusal (rw (at, at) at turn))
made_refused c g s refusal TryOwnerLoad at fits turn = absurd (owner_unrefused c s refusal at turn)
made_refused c g s refusal TryHandoffLoad at fits turn = handoff_load_refused c g s refusal at fits turn
made_refused c g s refusal (TryHandoffExchange seen) at fits turn = exchange_refused c g s seen refusal at fits turn
made_refused c g s refusal (SendWakeExchange t) at fits turn = send_refused c s t refusal (wake c.wakes t) at refl turn
made_refused c g s refusal _ at fits turn = absurd ((plain_at c s _ at refl).made_so (By refusal) (sym (turn_made c s) ∙ turn))

-- If there is the cause, the step is refused

send_refuses : (c : Core) (s t : ℕ) (w : Wake) → (seat c.seats s).point ≡ SendWakeExchange t → wake c.wakes t ≡ w → w ≢ Wake.Waiting
    → (made c s).turn ≡ Refused (By Refusal.NotWaiting)
send_refuses c s t Wake.Waiting at word other = absurd (other refl)
send_refuses c s t _ at word other = rw (at, at, word) refl

made_refuses : (c : Core) (s : ℕ) (p : Point) (refusal : Refusal) → (seat c.seats s).point ≡ p → CauseOfStep c p refusal
    → (made c s).turn ≡ Refused (By refusal)
made_refuses c s TryHandoffLoad Refusal.Busy at cause = rw (at, at, eq-eqb c.handoff.seat 0 cause) refl
made_refuses c s (TryHandoffExchange seen) Refusal.Busy at cause = rw (at, at, cause) refl
made_refuses c s (SendWakeExchange t) Refusal.NotWaiting at cause = send_refuses c s t (wake c.wakes t) at refl cause
made_refuses c s _ _ at cause = absurd cause

cause_moves : (c : Core) (p : Point) (refusal : Refusal) → CauseOfStep c p refusal → p ≢ Rest
cause_moves c p refusal cause e = rw e at cause

step_refused : (c : Core) (s : ℕ) (refusal : Refusal) → Steady c → (step c s).turn ≡ Refused (By refusal)
    → CauseOfStep c (seat c.seats s).point refusal × WasCharged refusal (seat c.seats s) × ((step c s).core ≡ put c s (ended_by refusal (seat c.seats s)))
step_refused c s refusal reached turn =
    let steady = reached in
    elim (cases_Bool (is_seat c.seats s)) [
      | inl is ↦ rw is (made_refused c steady.ghost_state s refusal (seat c.seats s).point refl steady.fits (rw is at turn))
      | inr none ↦ let f = rw none at turn in absurd (cc)
    ]

step_refuses : (c : Core) (s : ℕ) (refusal : Refusal) → CauseOfStep c (seat c.seats s).point refusal → (step c s).turn ≡ Refused (By refusal)
step_refuses c s refusal cause =
    let is = seat_of_point c.seats s (cause_moves c (seat c.seats s).point refusal cause) in
    rw (test_of_seat c.seats s is) (made_refuses c s (seat c.seats s).point refusal refl cause)

pub steps_are_refused_for_cause : StepsAreRefusedForCause
steps_are_refused_for_cause c s refusal reached = (step_refused c s refusal reached, step_refuses c s refusal)
