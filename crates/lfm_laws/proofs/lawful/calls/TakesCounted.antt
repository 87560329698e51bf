-- The takes of a seat change by what its calls charge and what Busy gives back.
use Rattle.std.proofs.Common.{◌≡◌, ℕ, ◌+◌, [], ◌∷◌, refl, sym, inl, inr, arith}
use Rattle.std.proofs.lemmas.Bool.{cases_Bool, cases_eq, eq-eqb, ne_eqb}
use Rattle.lfm_protocol.specs.declared.answers.Call.{Call}
use Rattle.lfm_protocol.specs.declared.points.Point.{Point}
use Rattle.lfm_protocol.specs.declared.points.Point.TheVariants.{ReleaseOwnerStore}
use Rattle.lfm_protocol.specs.Begin as Begin
use Rattle.lfm_protocol.specs.Core.{Core, limits}
use Rattle.lfm_protocol.specs.Seats.{seat, is_seat}
use Rattle.lfm_laws.specs.laws.Charges.{refund_of, charged, given_back, TakesChangeByCharges, TakesCountCharges}
use Rattle.lfm_laws.specs.laws.Schedules.{Event, begins, makes, happens}
use Rattle.lfm_laws.specs.steady.Ghost.{Ghost}
use Rattle.lfm_laws.specs.steady.Steady.{Fits}
use Rattle.lfm_laws.proofs.lawful.bounds.Leaving.{stepped, own_made, other_made}
use Rattle.lfm_laws.proofs.lawful.calls.SeatBegins.{begin_counts}
use Rattle.lfm_laws.proofs.lawful.calls.SeatSteps.{step_counts}
use Rattle.lfm_laws.proofs.lawful.refusals.PlainSteps.{turn_made}
use Rattle.lfm_laws.proofs.lawful.runs.Reached.{run_keeps}
use Rattle.lfm_laws.proofs.steady.frames.Entries.{seat-with_same, seat-with_other}
use Rattle.lfm_laws.proofs.steady.frames.Seated.{seat_of_test}

abbrev Changes : Core → Event → ℕ → Type 0
Changes c e s = (seat (happens c e).core.seats s).takes + given_back c e s ≡ (seat c.seats s).takes + charged c e s

-- The start of a call

begin_changes : (c : Core) (t s : ℕ) (call : Call) → Changes c (begins t call) s
begin_changes c t s call =
    elim (cases_Bool (is_seat c.seats t)) [
      | inl is ↦ elim (cases_eq t s) [
        | inl own ↦
            let m = Begin.begin (seat c.seats t) (limits c) call in
            let counts = (begin_counts (seat c.seats t) (limits c) call (seat c.seats t).point).takes in
            rw (sym own, is, eq-eqb t t refl, seat-with_same c.seats t m.seat (seat_of_test c.seats t is)) (omega (arith, counts))
        | inr other ↦ rw (is, ne_eqb t s other, seat-with_other c.seats t s _ (λ e. other (sym e))) refl
      ]
      | inr none ↦ elim (cases_eq t s) [
        | inl own ↦ rw (none, eq-eqb t s own) refl
        | inr other ↦ rw (none, ne_eqb t s other) refl
      ]
    ]

-- A step

step_takes : (c : Core) (g : Ghost) (s : ℕ) (p : Point) → Fits c g → (seat c.seats s).point ≡ p
    → (stepped c s).seat.takes + refund_of (stepped c s).turn ≡ (seat c.seats s).takes
step_takes c g s (ReleaseOwnerStore releaser) fits at = rw (at, at) (omega arith)
step_takes c g s p fits at = (step_counts c g s p fits at refl).paid

step_changes : (c : Core) (g : Ghost) (t s : ℕ) → Fits c g → Changes c (makes t) s
step_changes c g t s fits =
    elim (cases_Bool (is_seat c.seats t)) [
      | inl is ↦ elim (cases_eq t s) [
        | inl own ↦
            let counts = step_takes c g t (seat c.seats t).point fits refl in
            rw (sym own, is, eq-eqb t t refl, own_made c t (seat_of_test c.seats t is), turn_made c t) (omega (arith, counts))
        | inr other ↦ rw (is, ne_eqb t s other, other_made c t s (λ e. other (sym e))) refl
      ]
      | inr none ↦ elim (cases_eq t s) [
        | inl own ↦ rw (none, eq-eqb t s own) refl
        | inr other ↦ rw (none, ne_eqb t s other) refl
      ]
    ]

pub takes_change_by_charges : TakesChangeByCharges
takes_change_by_charges c (begins t call) s steady = begin_changes c t s call
takes_change_by_charges c (makes t) s steady = step_changes c steady.ghost_state t s steady.fits

-- A run

pub takes_count_charges : TakesCountCharges
takes_count_charges c [] s steady = refl
takes_count_charges c (e ∷ later) s steady =
    let one = takes_change_by_charges c e s steady in
    let rest = takes_count_charges (happens c e).core later s (run_keeps c (e ∷ []) steady) in
    omega (arith, one, rest)
