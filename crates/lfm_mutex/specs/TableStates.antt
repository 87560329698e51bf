-- Which state of the core a table is, with its limits and the seats that are not split off yet; where the moving value is; and
-- that a table at rest is free. Laws of steps are in other files.
use Rattle.std.specs.Prelude.{◌≡◌, ℕ, ◌+◌, ◌≤◌, Option, Some, None, length}
use mathlib.Core.Option.{some}
use lib.ListN.{get_elem?}
use Rattle.lfm_table.specs.Table.{State}
use Rattle.lfm_model.specs.Abstract.{AbstractMutex}
use Rattle.lfm_protocol.specs.declared.points.Point.TheVariants.{Rest}
use Rattle.lfm_protocol.specs.Core.{Core, limits}
use Rattle.lfm_protocol.specs.Seats.{seat, absent}
use Rattle.lfm_laws.specs.laws.Reading.{Reads}
use Rattle.lfm_laws.specs.steady.Steady.{Steady}
use Rattle.lfm_laws.specs.table.Carried.{TellsValue, out_with}
use Rattle.lfm_mutex.specs.Close.{IsFree}
use Rattle.lfm_mutex.specs.Laws.{IsCore}
use Rattle.lfm_table.specs.declared.rule.Moving.{Moving}
use Rattle.lfm_table.specs.declared.seat_view.View.{View}
use Rattle.lfm_table.specs.Rule.{Held}

-- The table is this state of the core, which reads as this abstract mutex. The moving value is with the one seat that owns or
-- carries, and otherwise in its slot, with the pop list.
pub record TableIs {T : Type 0} (s : State (Option (Moving T)) (View T)) (c : Core) (a : AbstractMutex) : Type 0 where
  pub core : IsCore s c
  pub limits_are : (j : ℕ) (v : View T) → get_elem? s.views j ≡ some v → v.limits ≡ limits c
  pub not_yet : (j : ℕ) → length s.views ≤ j → seat c.seats (j + 1) ≡ absent
  pub steady : Steady c
  pub reads : Reads c a
  pub tells : TellsValue c.seats a.place
  pub home : out_with a.place ≡ None → (x : Moving T) × (get_elem? s.homes 0 ≡ some (some (Some x))) × (x.popped.records ≡ c.popped)

module _ {T : Type 0} (follows : ℕ → T → T → Type 0) (fits : T → ℕ → Type 0) where
  abbrev pub TablesStand : Type 0
  TablesStand = (s : State (Option (Moving T)) (View T)) (h : Held follows fits s) → (a : AbstractMutex) × TableIs s h.core a

  -- if each seat rests and none holds, the count is 0, nothing is posted and no seat is queued
  abbrev pub RestingTablesAreFree : Type 0
  RestingTablesAreFree =
      (s : State (Option (Moving T)) (View T)) → Held follows fits s
      → ((j : ℕ) (v : View T) → get_elem? s.views j ≡ some v → (v.state.point ≡ Rest) × (v.state.depth ≡ 0)) → (c : Core) × IsCore s c × IsFree c
