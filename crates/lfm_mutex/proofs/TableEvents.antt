-- A step at a table is an event of the core: from the table's rule.
use Rattle.std.proofs.Common.{ℕ, ◌+◌, ◌≤◌, refl, sym, subst, arith}
use Rattle.lfm_protocol.specs.declared.limits.Limits.{Limits}
use Rattle.lfm_protocol.specs.declared.seats.SeatState.{SeatState}
use Rattle.lfm_protocol.specs.Core.{Core, limits, put}
use Rattle.lfm_protocol.specs.Limits.{max_budget}
use Rattle.lfm_protocol.specs.Seats.{seat, IsSeat}
use Rattle.lfm_laws.specs.steady.Ghost.{Ghost}
use Rattle.lfm_laws.specs.steady.Steady.{Fits}
use Rattle.lfm_laws.specs.table.Settles.{Settles}
use Rattle.lfm_laws.specs.table.Words.{AreNarrow}
use Rattle.lfm_laws.proofs.steady.Room.{numbers_fit}
use Rattle.lfm_laws.proofs.table.TableSteps.{found_at, put_popped, put_seats, put_turn, put_words}
use Rattle.lfm_laws.proofs.table.Narrow.{narrow_with}
use Rattle.lfm_laws.proofs.table.Settled.{settles_keeps, settles_narrow}
use Rattle.lfm_table.proofs.tables.Actions.{run_budget}
use Rattle.lfm_table.proofs.tables.SettledKept.{settles_of}
use Rattle.lfm_table.proofs.tables.RuleKept.{length_at}
use Rattle.lfm_mutex.specs.TableEvents.{IsEvent, TablesStepAsTheCore}

event_of : (c : Core) (g : Ghost) (s : ℕ) (p : SeatState) → IsSeat c.seats s → Fits c g → AreNarrow c.seats → c.budget ≤ max_budget
    → Settles (seat c.seats s) (limits c) p → IsEvent c s p (found_at c s p)
event_of c g s p is fits narrow small settles =
    let put_fits = settles_keeps c g s p is fits settles in
    let fit = numbers_fit (put c s p) g put_fits small in
    let put_narrow = narrow_with c.seats s p is (settles_narrow (seat c.seats s) (limits c) p settles (narrow s)) narrow in
    record {
      found = refl;
      words_are = put_words c g s p is put_fits fit put_narrow;
      seats_are = put_seats c g s p is put_fits fit put_narrow;
      popped_are = put_popped c g s p is put_fits fit put_narrow;
      turn_is = put_turn c g s p is put_fits fit put_narrow;
    }

module _ {T : Type 0} (follows : ℕ → T → T → Type 0) (fits : T → ℕ → Type 0) where
  pub tables_step_as_the_core : TablesStepAsTheCore follows fits
  tables_step_as_the_core s h j v p at became =
      let sits = h.each j v at in
      let low = length_at s.views j v at in let few = h.few in
      let is : IsSeat h.core.seats (j + 1) = record { above = omega arith; within = omega (arith, low, few) } in
      let settles : Settles (seat h.core.seats (j + 1)) (limits h.core) p =
      subst (λ (x : SeatState). Settles x (limits h.core) p) (sym sits.state) (subst (λ (l : Limits). Settles v.state l p) sits.limits_are (settles_of v.state v.limits p became)) in
      (found_at h.core (j + 1) p, event_of h.core h.ghost_state (j + 1) p is h.fits h.narrow (run_budget h.opened h.actions h.core s.views h.run) settles)
