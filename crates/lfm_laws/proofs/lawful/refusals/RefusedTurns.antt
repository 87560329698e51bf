-- Every event is refused only for its cause: the mutex's own, a number that no seat has, a call while another is open, or a
-- step outside of a call.
use Rattle.std.proofs.Common.{◌≡◌, ℕ, true, false, Option, None, refl, sym, ◌∙◌, inl, inr}
use Rattle.std.proofs.lemmas.Bool.{cases_Bool, cases_eq, eq-eqb, ne_eqb, false≢true}
use Rattle.lfm_protocol.specs.declared.answers.Call.{Call}
use Rattle.lfm_protocol.specs.declared.answers.Turn.{Turn}
use Rattle.lfm_protocol.specs.declared.answers.Turn.TheVariants.{Refused}
use Rattle.lfm_protocol.specs.declared.answers.Why.{Why}
use Rattle.lfm_protocol.specs.declared.answers.Why.TheVariants.{By}
use Rattle.lfm_protocol.specs.declared.kinds.Kind.{Kind}
use Rattle.lfm_protocol.specs.declared.limits.Limits.{Limits}
use Rattle.lfm_protocol.specs.declared.points.Point.{Point}
use Rattle.lfm_protocol.specs.declared.points.Point.TheVariants.{Rest, Asleep, TryCountExchange, TryOwnerLoad, TryHandoffLoad, TryHandoffExchange, SendWakeExchange}
use Rattle.lfm_protocol.specs.declared.seats.SeatState.{SeatState}
use Rattle.lfm_words.specs.declared.wakes.Wake.{Wake}
use Rattle.lfm_protocol.specs.After.{same_handoff}
use Rattle.lfm_protocol.specs.Begin as Begin
use Rattle.lfm_protocol.specs.Begin.{Stepped}
use Rattle.lfm_protocol.specs.Core.{Core, limits}
use Rattle.lfm_protocol.specs.Points.{kind, target}
use Rattle.lfm_laws.specs.laws.Refusals.{CauseToRefuse, TurnsAreRefusedForCause}
use Rattle.lfm_laws.specs.laws.Schedules.{begins, makes, is_call}
use Rattle.lfm_laws.specs.steady.Steady.{Steady}
use Rattle.lfm_protocol.specs.Seats.{seat, wake, is_seat, IsSeat}
use Rattle.lfm_protocol.specs.Step.{step_of, made, step, begin}
use Rattle.std.specs.Prelude.{⊤}
use Rattle.lfm_laws.proofs.lawful.refusals.Beginnings.{IsByMutex, begun_awake, begun_asleep}
use Rattle.lfm_laws.proofs.lawful.bounds.Leaving.{seat_of_call}
use Rattle.lfm_laws.proofs.steady.frames.Seated.{seat_of_test, test_of_seat}
use Rattle.lfm_laws.proofs.lawful.refusals.PlainSteps.{plain_at, turn_made}
use Rattle.lfm_laws.proofs.lawful.refusals.RefusedCalls.{begins_are_refused_for_cause}
use Rattle.lfm_laws.proofs.lawful.refusals.RefusedSteps.{steps_are_refused_for_cause}

-- Only the mutex refuses the call of a seat that has none open

-- why a call that a seat begins at this point may be refused
abbrev WhyAtBegin : Point → Why → Type 0
WhyAtBegin p Why.NoSuchSeat = ⊥
WhyAtBegin p Why.InCall = is_call p ≡ true
WhyAtBegin p Why.Idle = ⊥
WhyAtBegin p (By refusal) = ⊤

by_why : (p : Point) (why : Why) (turn : Turn) → IsByMutex turn → turn ≡ Refused why → WhyAtBegin p why
by_why p Why.NoSuchSeat turn by e = absurd (rw e at by)
by_why p Why.InCall turn by e = absurd (rw e at by)
by_why p Why.Idle turn by e = absurd (rw e at by)
by_why p (By refusal) turn by e = tt

in_call_why : (p : Point) (why : Why) → is_call p ≡ true → Refused Why.InCall ≡ Refused why → WhyAtBegin p why
in_call_why p Why.NoSuchSeat inside e = absurd (cc)
in_call_why p Why.InCall inside e = inside
in_call_why p Why.Idle inside e = absurd (cc)
in_call_why p (By refusal) inside e = tt

begin_why : (x : SeatState) (bounds : Limits) (call : Call) (p : Point) (why : Why) → (Begin.begin_at x bounds call p).turn ≡ Refused why → WhyAtBegin p why
begin_why x bounds call Rest why turn = by_why Rest why _ (begun_awake x bounds call).by turn
begin_why x bounds call (Asleep sleeper) why turn = by_why (Asleep sleeper) why _ (begun_asleep x sleeper call).by turn
begin_why x bounds call p why turn = in_call_why p why refl turn

in_call : (x : SeatState) (bounds : Limits) (call : Call) (p : Point) → is_call p ≡ true → (Begin.begin_at x bounds call p).turn ≡ Refused Why.InCall
in_call x bounds call Rest inside = absurd (false≢true inside)
in_call x bounds call (Asleep sleeper) inside = absurd (false≢true inside)
in_call x bounds call _ inside = refl

no_seat_why : (why : Why) → Refused Why.NoSuchSeat ≡ Refused why → why ≡ Why.NoSuchSeat
no_seat_why why e = cc

begins_known : (c : Core) (s : ℕ) (call : Call) (why : Why) → Steady c → IsSeat c.seats s → (begin c s call).turn ≡ Refused why
    → WhyAtBegin (seat c.seats s).point why → CauseToRefuse c (begins s call) why
begins_known c s call Why.NoSuchSeat reached is turn asked = absurd asked
begins_known c s call Why.InCall reached is turn asked = asked
begins_known c s call Why.Idle reached is turn asked = absurd asked
begins_known c s call (By refusal) reached is turn asked = (is, (begins_are_refused_for_cause c s call refusal reached is).0 turn)

begins_forth : (c : Core) (s : ℕ) (call : Call) (why : Why) → Steady c → (begin c s call).turn ≡ Refused why → CauseToRefuse c (begins s call) why
begins_forth c s call why reached turn =
    elim (cases_Bool (is_seat c.seats s)) [
      | inl is ↦
          let asked = begin_why (seat c.seats s) (limits c) call (seat c.seats s).point why (rw is at turn) in
          begins_known c s call why reached (seat_of_test c.seats s is) turn asked
      | inr none ↦
          let e = no_seat_why why (rw none at turn) in
          rw e none
    ]

begins_back : (c : Core) (s : ℕ) (call : Call) (why : Why) → Steady c → CauseToRefuse c (begins s call) why → (begin c s call).turn ≡ Refused why
begins_back c s call Why.NoSuchSeat reached cause = rw cause refl
begins_back c s call Why.InCall reached cause =
    rw (test_of_seat c.seats s (seat_of_call c s cause)) (in_call (seat c.seats s) (limits c) call (seat c.seats s).point cause)
begins_back c s call Why.Idle reached cause = absurd cause
begins_back c s call (By refusal) reached cause = (begins_are_refused_for_cause c s call refusal reached cause.0).1 cause.1

-- Steps

-- why a step at this point may be refused
abbrev pub WhyAtStep : Point → Why → Type 0
WhyAtStep p Why.NoSuchSeat = ⊥
WhyAtStep p Why.InCall = ⊥
WhyAtStep p Why.Idle = is_call p ≡ false
WhyAtStep p (By refusal) = ⊤

idle_why : (p : Point) (why : Why) → is_call p ≡ false → Refused Why.Idle ≡ Refused why → WhyAtStep p why
idle_why p Why.NoSuchSeat outside e = absurd (cc)
idle_why p Why.InCall outside e = absurd (cc)
idle_why p Why.Idle outside e = outside
idle_why p (By refusal) outside e = tt

step_by_why : (p : Point) (why : Why) (turn : Turn) → IsByMutex turn → turn ≡ Refused why → WhyAtStep p why
step_by_why p Why.NoSuchSeat turn by e = absurd (rw e at by)
step_by_why p Why.InCall turn by e = absurd (rw e at by)
step_by_why p Why.Idle turn by e = absurd (rw e at by)
step_by_why p (By refusal) turn by e = tt

send_by : (c : Core) (s t : ℕ) (w : Wake) → (seat c.seats s).point ≡ SendWakeExchange t → wake c.wakes t ≡ w → IsByMutex (made c s).turn
send_by c s t Wake.Waiting at word = rw (at, at, word) tt
send_by c s t _ at word = rw (at, at, word) tt

owner_by : (c : Core) (s : ℕ) → (seat c.seats s).point ≡ TryOwnerLoad → IsByMutex (made c s).turn
owner_by c s at =
    elim (cases_eq c.owner s) [
      | inl own ↦ rw (at, at, eq-eqb c.owner s own) tt
      | inr other ↦ rw (at, at, ne_eqb c.owner s other) tt
    ]

refused_by : (c : Core) (s : ℕ) → (seat c.seats s).point ≡ TryHandoffLoad → IsByMutex (made c s).turn
refused_by c s at =
    elim (cases_eq c.handoff.seat 0) [
      | inl none ↦ rw (at, at, eq-eqb c.handoff.seat 0 none) tt
      | inr some ↦ rw (at, at, ne_eqb c.handoff.seat 0 some) tt
    ]

pub step_why : (c : Core) (s : ℕ) (why : Why) (p : Point) → (seat c.seats s).point ≡ p → (made c s).turn ≡ Refused why → WhyAtStep p why
step_why c s why Rest at turn = idle_why Rest why refl (rw at at turn)
step_why c s why (Asleep sleeper) at turn = idle_why (Asleep sleeper) why refl (rw at at turn)
step_why c s why TryCountExchange at turn = step_by_why TryCountExchange why (made c s).turn (rw (at, at) tt) turn
step_why c s why TryOwnerLoad at turn = step_by_why TryOwnerLoad why (made c s).turn (owner_by c s at) turn
step_why c s why TryHandoffLoad at turn = step_by_why TryHandoffLoad why (made c s).turn (refused_by c s at) turn
step_why c s why (TryHandoffExchange seen) at turn =
    elim (cases_Bool (same_handoff c.handoff seen)) [
      | inl same ↦ step_by_why (TryHandoffExchange seen) why (made c s).turn (rw (at, at, same) tt) turn
      | inr other ↦ step_by_why (TryHandoffExchange seen) why (made c s).turn (rw (at, at, other) tt) turn
    ]
step_why c s why (SendWakeExchange t) at turn =
    step_by_why (SendWakeExchange t) why (made c s).turn (send_by c s t (wake c.wakes t) at refl) turn
step_why c s why _ at turn = absurd ((plain_at c s _ at refl).made_so why (sym (turn_made c s) ∙ turn))

makes_known : (c : Core) (s : ℕ) (why : Why) → Steady c → IsSeat c.seats s → (step c s).turn ≡ Refused why
    → WhyAtStep (seat c.seats s).point why → CauseToRefuse c (makes s) why
makes_known c s Why.NoSuchSeat reached is turn asked = absurd asked
makes_known c s Why.InCall reached is turn asked = absurd asked
makes_known c s Why.Idle reached is turn asked = (is, asked)
makes_known c s (By refusal) reached is turn asked = ((steps_are_refused_for_cause c s refusal reached).0 turn).0

makes_forth : (c : Core) (s : ℕ) (why : Why) → Steady c → (step c s).turn ≡ Refused why → CauseToRefuse c (makes s) why
makes_forth c s why reached turn =
    elim (cases_Bool (is_seat c.seats s)) [
      | inl is ↦
          let asked = step_why c s why (seat c.seats s).point refl (rw is at turn) in
          makes_known c s why reached (seat_of_test c.seats s is) turn asked
      | inr none ↦
          let e = no_seat_why why (rw none at turn) in
          rw e none
    ]

pub idle_kind : (p : Point) → is_call p ≡ false → kind p ≡ None
idle_kind Rest outside = refl
idle_kind (Asleep sleeper) outside = refl
idle_kind _ outside = absurd (false≢true (sym outside))

idle_turn : (c : Core) (s t : ℕ) (k : Option Kind) → k ≡ None → (step_of c s t k).turn ≡ Refused Why.Idle
idle_turn c s t k none = rw none refl

makes_back : (c : Core) (s : ℕ) (why : Why) → Steady c → CauseToRefuse c (makes s) why → (step c s).turn ≡ Refused why
makes_back c s Why.NoSuchSeat reached cause = rw cause refl
makes_back c s Why.InCall reached cause = absurd cause
makes_back c s Why.Idle reached cause =
    rw (test_of_seat c.seats s cause.0) (idle_turn c s (target (seat c.seats s).point s) (kind (seat c.seats s).point) (idle_kind (seat c.seats s).point cause.1))
makes_back c s (By refusal) reached cause = (steps_are_refused_for_cause c s refusal reached).1 cause

pub turns_are_refused_for_cause : TurnsAreRefusedForCause
turns_are_refused_for_cause c (begins s call) why reached = (begins_forth c s call why reached, begins_back c s call why reached)
turns_are_refused_for_cause c (makes s) why reached = (makes_forth c s why reached, makes_back c s why reached)
