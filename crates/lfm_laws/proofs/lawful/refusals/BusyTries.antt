-- A try_lock reaches each point from which Busy may follow only by its own step at the point before, and by what that step
-- found.
use Rattle.std.proofs.Common.{◌≡◌, ◌≢◌, ◌⊎◌, ℕ, false, refl, ap, ◌∙◌, inl, inr, arith}
use Rattle.std.proofs.lemmas.Bool.{cases_Bool, cases_eq, eq-eqb, ne_eqb}
use Rattle.lfm_protocol.specs.declared.answers.Call.{Call}
use Rattle.lfm_protocol.specs.declared.limits.Limits.{Limits}
use Rattle.lfm_protocol.specs.declared.points.Point.{Point}
use Rattle.lfm_protocol.specs.declared.points.Point.TheVariants.{Rest, Asleep, TryCountExchange, TryOwnerLoad, TryHandoffLoad, TryHandoffExchange, SendWakeExchange}
use Rattle.lfm_protocol.specs.declared.kinds.Kind.{Kind}
use Rattle.std.specs.Prelude.{Option, None}
use Rattle.lfm_protocol.specs.Points.{kind, target}
use Rattle.lfm_protocol.specs.declared.seats.SeatState.{SeatState}
use Rattle.lfm_words.specs.declared.wakes.Wake.{Wake}
use Rattle.lfm_protocol.specs.After.{same_handoff}
use Rattle.lfm_protocol.specs.Begin as Begin
use Rattle.lfm_protocol.specs.Begin.{Stepped}
use Rattle.lfm_protocol.specs.Core.{Core, limits}
use Rattle.lfm_laws.specs.steady.Ghost.{owned, Ghost}
use Rattle.lfm_laws.specs.laws.Refusals.{TriesBy, TriesSeeAHolder}
use Rattle.lfm_laws.specs.laws.Schedules.{Event, begins, makes, happens}
use Rattle.lfm_protocol.specs.Seats.{seat, wake, is_seat}
use Rattle.lfm_laws.specs.steady.Steady.{Fits}
use Rattle.lfm_laws.specs.steady.Views.{held_by}
use Rattle.lfm_laws.proofs.lawful.refusals.Beginnings.{begun_awake, begun_asleep}
use Rattle.lfm_laws.proofs.lawful.bounds.Leaving.{stepped_by, stepped, own_made, other_made}
use Rattle.lfm_laws.proofs.steady.frames.Seated.{seat_of_test}
use Rattle.lfm_laws.proofs.lawful.refusals.PlainSteps.{tries, plain_at}
use Rattle.lfm_laws.proofs.steady.frames.Entries.{seat-with_same, seat-with_other}
use Rattle.lfm_laws.proofs.steady.frames.Frames.{place_of_claim}

untried_by : (c : Core) (s : ℕ) (e : Event) (p : Point) → tries p ≡ false → TriesBy c s e p
untried_by c s e TryOwnerLoad untried = absurd (cc)
untried_by c s e TryHandoffLoad untried = absurd (cc)
untried_by c s e (TryHandoffExchange seen) untried = absurd (cc)
untried_by c s e _ untried = tt

tries_at : (c : Core) (s : ℕ) (e : Event) (p q : Point) → p ≡ q → TriesBy c s e q → TriesBy c s e p
tries_at c s e p q same there = rw same there

-- The start of a call leads to none of these points

-- it leaves its seat unchanged, or at another point
begin_tries : (c : Core) (s : ℕ) (e : Event) (x : SeatState) (bounds : Limits) (call : Call) (p : Point) → x.point ≡ p
    → ((Begin.begin_at x bounds call p).seat ≡ x) ⊎ TriesBy c s e (Begin.begin_at x bounds call p).seat.point
begin_tries c s e x bounds call Rest at = inr (untried_by c s e _ ((begun_awake x bounds call).untried (ap tries at)))
begin_tries c s e x bounds call (Asleep sleeper) at = inr (untried_by c s e _ ((begun_asleep x sleeper call).untried (ap tries at)))
begin_tries c s e x bounds call _ at = inl refl

-- A step of the seat itself

-- a try_lock whose owner load does not find its number has no hold
unowned : (c : Core) (g : Ghost) (s : ℕ) → (seat c.seats s).point ≡ TryOwnerLoad → Fits c g → c.owner ≢ s → (seat c.seats s).depth ≡ 0
unowned c g s at fits other =
    elim (cases_eq (seat c.seats s).depth 0) [
      | inl none ↦ none
      | inr held ↦
          let claims : owned s false ≡ held_by g.place s = rw (at, ne_eqb (seat c.seats s).depth 0 held) at (fits.each s).claims in
          let place = place_of_claim g.place (owned s false) s (λ e. cc) claims in
          absurd (other (fits.words.owner ∙ rw place refl))
    ]

send_untried : (c : Core) (s t : ℕ) (w : Wake) → (seat c.seats s).point ≡ SendWakeExchange t → wake c.wakes t ≡ w → tries (stepped c s).seat.point ≡ false
send_untried c s t Wake.Waiting at word = rw (at, at, word) refl
send_untried c s t _ at word = rw (at, at, word) refl

abbrev OwnTries : Core → ℕ → Type 0
OwnTries c s = ((stepped c s).seat ≡ seat c.seats s) ⊎ TriesBy c s (makes s) (stepped c s).seat.point

idle_stays : (c : Core) (s t : ℕ) (k : Option Kind) → k ≡ None → (stepped_by c s t k).seat ≡ seat c.seats s
idle_stays c s t k none = rw none refl

own_tries : (c : Core) (g : Ghost) (s : ℕ) (p : Point) → (seat c.seats s).point ≡ p → Fits c g → OwnTries c s
own_tries c g s Rest at fits = inl (idle_stays c s (target (seat c.seats s).point s) (kind (seat c.seats s).point) (ap kind at))
own_tries c g s (Asleep sleeper) at fits = inl (idle_stays c s (target (seat c.seats s).point s) (kind (seat c.seats s).point) (ap kind at))
own_tries c g s TryCountExchange at fits =
    elim (cases_eq c.count 0) [
      | inl free ↦ inr (untried_by c s (makes s) (stepped c s).seat.point (rw (at, at, eq-eqb c.count 0 free) refl))
      | inr some ↦ inr (tries_at c s (makes s) (stepped c s).seat.point TryOwnerLoad (rw (at, at, ne_eqb c.count 0 some) refl) (refl, at, omega (arith, some)))
    ]
own_tries c g s TryOwnerLoad at fits =
    elim (cases_eq c.owner s) [
      | inl own ↦ inr (untried_by c s (makes s) (stepped c s).seat.point (rw (at, at, eq-eqb c.owner s own) refl))
      | inr other ↦
          inr (tries_at c s (makes s) (stepped c s).seat.point TryHandoffLoad (rw (at, at, ne_eqb c.owner s other) refl) (refl, at, other, unowned c g s at fits other))
    ]
own_tries c g s TryHandoffLoad at fits =
    elim (cases_eq c.handoff.seat 0) [
      | inl none ↦ inr (untried_by c s (makes s) (stepped c s).seat.point (rw (at, at, eq-eqb c.handoff.seat 0 none) refl))
      | inr some ↦
          inr (tries_at c s (makes s) (stepped c s).seat.point (TryHandoffExchange c.handoff) (rw (at, at, ne_eqb c.handoff.seat 0 some) refl)
          (refl, at, refl, omega (arith, some)))
    ]
own_tries c g s (TryHandoffExchange seen) at fits =
    elim (cases_Bool (same_handoff c.handoff seen)) [
      | inl same ↦ inr (untried_by c s (makes s) (stepped c s).seat.point (rw (at, at, same) refl))
      | inr other ↦ inr (untried_by c s (makes s) (stepped c s).seat.point (rw (at, at, other) refl))
    ]
own_tries c g s (SendWakeExchange t) at fits = inr (untried_by c s (makes s) (stepped c s).seat.point (send_untried c s t (wake c.wakes t) at refl))
own_tries c g s _ at fits = inr (untried_by c s (makes s) (stepped c s).seat.point (plain_at c s _ at refl).untried)

-- Every event

abbrev Leads : Core → Event → ℕ → Type 0
Leads c e s = (seat (happens c e).core.seats s ≡ seat c.seats s) ⊎ TriesBy c s e (seat (happens c e).core.seats s).point

begin_leads : (c : Core) (t s : ℕ) (call : Call) → Leads c (begins t call) s
begin_leads c t s call =
    elim (cases_Bool (is_seat c.seats t)) [
      | inl is ↦ elim (cases_eq s t) [
        | inl own ↦
            let here = begin_tries c s (begins t call) (seat c.seats t) (limits c) call (seat c.seats t).point refl in
            rw (is, own, seat-with_same c.seats t (Begin.begin (seat c.seats t) (limits c) call).seat (seat_of_test c.seats t is)) (rw own at here)
        | inr other ↦ inl (rw is (seat-with_other c.seats t s _ other))
      ]
      | inr none ↦ inl (rw none refl)
    ]

own_leads : (c : Core) (g : Ghost) (s : ℕ) → Fits c g → Leads c (makes s) s
own_leads c g s fits =
    elim (cases_Bool (is_seat c.seats s)) [
      | inl is ↦ rw (is, own_made c s (seat_of_test c.seats s is)) (own_tries c g s (seat c.seats s).point refl fits)
      | inr none ↦ inl (rw none refl)
    ]

other_leads : (c : Core) (t s : ℕ) → s ≢ t → Leads c (makes t) s
other_leads c t s other =
    elim (cases_Bool (is_seat c.seats t)) [
      | inl is ↦ inl (rw is (other_made c t s other))
      | inr none ↦ inl (rw none refl)
    ]

pub tries_see_a_holder : TriesSeeAHolder
tries_see_a_holder c (begins t call) s reached = begin_leads c t s call
tries_see_a_holder c (makes t) s reached =
    let steady = reached in
    elim (cases_eq s t) [
      | inl own ↦ rw own (own_leads c steady.ghost_state t steady.fits)
      | inr other ↦ other_leads c t s other
    ]
