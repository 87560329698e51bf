-- The holds that have ended at a table, and that a close can return only one value. Holds are numbered 1, 2, 3 and so on over
-- all seats, in the order in which they end. Of each seat, the number of the hold that it ended last is known. Laws of words
-- and of steps are in other files.
use Rattle.std.specs.Prelude.{◌≡◌, ℕ, ◌<◌, List, length, Option, Some, None, true}
use mathlib.Core.Option.{some}
use lib.ListN.{get_elem?}
use Rattle.lfm_table.specs.Table.{State}
use Rattle.lfm_model.specs.Abstract.{AbstractMutex}
use Rattle.lfm_protocol.specs.Core.{Core}
use Rattle.lfm_laws.specs.laws.Reading.{Reads}
use Rattle.lfm_laws.specs.table.Carried.{carries_value, out_with}
use Rattle.lfm_mutex.specs.Close.{LeftByLastHold}
use Rattle.lfm_mutex.specs.Laws.{IsCore}
use Rattle.lfm_mutex.specs.calls.Sight.{Sight}
use Rattle.lfm_table.specs.declared.rule.Moving.{Moving}
use Rattle.lfm_table.specs.declared.seat_view.View.{View}
use Rattle.lfm_table.specs.Rule.{AreNumbered, Held}

-- the hold with this number left this value. If the number is 0, no hold has ended, and the value is the one that a seat has as
-- its last from the start
abbrev pub LeftByHold : {T : Type 0} → List (View T) → ℕ → T → Type 0
LeftByHold {T} views n w = (j : ℕ) × (v : View T) × (get_elem? views j ≡ some v) × (v.ended ≡ n) × (v.last ≡ Some w)

-- At the table, which is this state of the core and reads as this abstract mutex, n holds have ended. A seat that has the
-- moving value knows n. The value in the slot, or with a seat that carries and doesn't hold, is the one that hold n left.
pub record HaveEnded {T : Type 0} (s : State (Option (Moving T)) (View T)) (c : Core) (a : AbstractMutex) (n : ℕ) : Type 0 where
  pub core : IsCore s c
  pub reads : Reads c a
  pub numbered : AreNumbered s.views n
  pub home : out_with a.place ≡ None → (x : Moving T) × (get_elem? s.homes 0 ≡ some (some (Some x))) × LeftByHold s.views n x.value
  pub knows : (j : ℕ) (v : View T) → get_elem? s.views j ≡ some v → carries_value v.state ≡ true → v.holds_ended ≡ n
  pub carried : (j : ℕ) (v : View T) → get_elem? s.views j ≡ some v → carries_value v.state ≡ true → v.state.depth ≡ 0 → (w : T) × (v.found ≡ Some w) × LeftByHold s.views n w

module _ {T : Type 0} (follows : ℕ → T → T → Type 0) (fits : T → ℕ → Type 0) where
  abbrev pub HoldsAreNumbered : Type 0
  HoldsAreNumbered = (s : State (Option (Moving T)) (View T)) → Held follows fits s → (c : Core) × (a : AbstractMutex) × (n : ℕ) × HaveEnded s c a n

-- among seats of which no two have the same number, the last hold of all left at most one value
abbrev pub OneLastValue : Type 0 → Type 0
OneLastValue T =
    (seats : List (Sight T)) (v w : T) → 0 < length seats → ((i j : ℕ) (s t : Sight T) → get_elem? seats i ≡ some s → get_elem? seats j ≡ some t → s.number ≡ t.number → i ≡ j)
    → LeftByLastHold (λ (s : Sight T). s) seats v → LeftByLastHold (λ (s : Sight T). s) seats w → v ≡ w
