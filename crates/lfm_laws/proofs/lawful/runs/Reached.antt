-- Every state that a schedule reaches is steady, and each event leads from one ghost to the next.
use Rattle.std.proofs.Common.{◌≡◌, ℕ, false, List, [], ◌∷◌, refl, sym, inl, inr}
use Rattle.std.proofs.lemmas.Bool.{cases_Bool}
use Rattle.lfm_protocol.specs.declared.seats.SeatState.{SeatState}
use Rattle.lfm_laws.specs.laws.Cases.{case_of_event}
use Rattle.lfm_protocol.specs.Core.{Core}
use Rattle.lfm_laws.specs.steady.Ghost.{Ghost}
use Rattle.lfm_laws.specs.laws.Laws.{IsReached}
use Rattle.lfm_laws.specs.steady.EventOutcome.{EventOutcome}
use Rattle.lfm_laws.specs.laws.Schedules.{Event, begins, makes, happens, run_of, pushed_in, popped_in, answered_in}
use Rattle.lfm_protocol.specs.Seats.{seat, absent, is_seat}
use Rattle.lfm_laws.specs.steady.Steady.{Fits, Steady}
use Rattle.lfm_protocol.specs.Step.{start}
use Rattle.lfm_protocol.proofs.SeatLaws.{entry_absent}
use Rattle.lfm_laws.proofs.steady.frames.Histories.{history_stays}
pub use Rattle.lfm_laws.proofs.steady.Begins.{begin_keeps}
use Rattle.lfm_laws.proofs.steady.Start.{start_steady}
use Rattle.lfm_laws.proofs.steady.frames.Seated.{seat_of_test}
pub use Rattle.lfm_laws.proofs.steady.StepsKept.{made_keeps}

-- a number for which the test of a step finds no seat
pub absent_tested : (seats : List SeatState) (s : ℕ) → is_seat seats s ≡ false → seat seats s ≡ absent
absent_tested seats s none = sym (entry_absent absent seats s none)

-- the outcome of an event in a steady state, in the form of a step's outcome
abbrev pub Goes : Core → Ghost → Event → Type 0
Goes c g e = EventOutcome g (happens c e).core (case_of_event c e) (pushed_in c e) (popped_in c e) (answered_in c e)

-- the start of a call leaves the ghost unchanged, and a step of a number that no seat has leaves everything unchanged
pub event_goes : (c : Core) (g : Ghost) (e : Event) → Fits c g → Goes c g e
event_goes c g (begins s call) fits =
    record {
      to = g;
      fits = begin_keeps c g s call fits;
      goes = record { place = refl; asking = λ x. refl; waiting = refl };
      history = history_stays g g refl refl refl refl;
    }
event_goes c g (makes s) fits =
    elim (cases_Bool (is_seat c.seats s)) [
      | inl is ↦ rw is (made_keeps c g s (seat_of_test c.seats s is) fits)
      | inr none ↦
          rw (none, absent_tested c.seats s none) (record {
            to = g;
            fits = fits;
            goes = record { place = refl; asking = λ x. refl; waiting = refl };
            history = history_stays g g refl refl refl refl;
          })
    ]

-- events keep a state steady
pub run_keeps : (c : Core) (events : List Event) → Steady c → Steady (run_of c events)
run_keeps c [] steady = steady
run_keeps c (e ∷ later) steady =
    let goes = event_goes c steady.ghost_state e steady.fits in
    run_keeps (happens c e).core later (record { ghost_state = goes.to; fits = goes.fits })

pub steady_reached : (c : Core) → IsReached c → Steady c
steady_reached c is =
    rw is.here
    (run_keeps (start is.limits) is.events (start_steady is.limits is.few))
