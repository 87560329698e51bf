-- The states of a table, from its rule: which state of the core it is, and that it is free if all seats rest.
use Rattle.std.proofs.Common.{◌≡◌, ℕ, zero, suc, ◌+◌, sym, refl, subst, ⊎_elim, arith, Option}
use mathlib.Core.Option.{some}
use lib.ListN.{get_elem?}
use Rattle.lfm_table.specs.Table.{State}
use Rattle.lfm_protocol.specs.declared.points.Point.TheVariants.{Rest}
use Rattle.lfm_protocol.specs.declared.seats.SeatState.{SeatState}
use Rattle.lfm_protocol.specs.Seats.{seat}
use Rattle.lfm_laws.specs.steady.EventOutcome.{abstract}
use Rattle.lfm_laws.proofs.lawful.read.Readings.{reads_ghost}
use Rattle.lfm_laws.proofs.steady.frames.Entries.{seat_zero}
use Rattle.lfm_laws.proofs.table.Values.{carried_by_none, tells_value}
use Rattle.lfm_mutex.proofs.LawsHeld.{core_of, steady_of}
use Rattle.lfm_mutex.proofs.ends.Ends.{there_or_past}
use Rattle.lfm_mutex.proofs.ends.FreeWords.{free_core}
use Rattle.lfm_table.specs.declared.rule.Moving.{Moving}
use Rattle.lfm_table.specs.declared.seat_view.View.{View}
use Rattle.lfm_table.specs.Rule.{Held}
use Rattle.lfm_mutex.specs.TableStates.{TablesStand, RestingTablesAreFree}

module _ {T : Type 0} (follows : ℕ → T → T → Type 0) (fits : T → ℕ → Type 0) where
  abbrev St : Type 0
  St = State (Option (Moving T)) (View T)

  abbrev IsResting : SeatState → Type 0
  IsResting x = (x.point ≡ Rest) × (x.depth ≡ 0)

  pub tables_stand : TablesStand follows fits
  tables_stand s h =
      let tells = tells_value h.core h.ghost_state h.fits in (
        abstract h.ghost_state,
        record {
          core = core_of follows fits s h;
          limits_are = λ j v at. (h.each j v at).limits_are;
          not_yet = h.later;
          steady = steady_of follows fits s h;
          reads = reads_ghost h.core h.ghost_state h.fits;
          tells = tells;
          home = λ none. let x = h.home (carried_by_none h.core.seats (abstract h.ghost_state).place tells none) in (x.value, x.here, x.records);
        },
      )

  all_rest : (s : St) (h : Held follows fits s) → ((j : ℕ) (v : View T) → get_elem? s.views j ≡ some v → IsResting v.state) → (t : ℕ) → IsResting (seat h.core.seats t)
  all_rest s h rests zero = subst IsResting (sym (seat_zero h.core.seats)) (refl, refl)
  all_rest s h rests (suc j) =
      let next : suc j ≡ j + 1 = omega arith in
      subst (λ (n : ℕ). IsResting (seat h.core.seats n)) (sym next) (⊎_elim
      (λ (z : (x : View T) × (get_elem? s.views j ≡ some x)). subst IsResting (sym (h.each j z.0 z.1).state) (rests j z.0 z.1))
      (λ far. subst IsResting (sym (h.later j far)) (refl, refl)) (there_or_past s.views j))

  pub resting_tables_are_free : RestingTablesAreFree follows fits
  resting_tables_are_free s h rests = (h.core, core_of follows fits s h, free_core h.core h.ghost_state h.fits (all_rest s h rests))
