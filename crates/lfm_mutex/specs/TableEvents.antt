-- A step of a running seat, which may have begun calls before it, is the core's step at the state of the core that the table
-- is.
use Rattle.std.specs.Prelude.{◌≡◌, ℕ, ◌+◌, Option, length, set, slice_index}
use mathlib.Core.Option.{some}
use lib.ListN.{get_elem?}
use Rattle.lfm_table.specs.Table.{State}
use Rattle.lfm_protocol.specs.declared.seats.SeatState.{SeatState}
use Rattle.lfm_protocol.specs.Core.{Core, put}
use Rattle.lfm_protocol.specs.Seats.{with_entry}
use Rattle.lfm_protocol.specs.Step.{made}
use Rattle.lfm_words.specs.Popped.{oldest}
use Rattle.lfm_laws.specs.table.Words.{words, index, written, stepped_by, popped_by_step}
use Rattle.lfm_table.specs.declared.rule.Moving.{Moving}
use Rattle.lfm_table.specs.declared.seat_view.View.{View}
use Rattle.lfm_table.specs.Rule.{Held}
use Rattle.lfm_table.specs.Settled.{Became}

-- Seat k, whose state has become p by starts of calls, makes the core's step. The word that it accesses was n, and becomes what
-- p and n say. The seat, the pop list and the turn are those that the running seat makes from n.
pub record IsEvent (c : Core) (k : ℕ) (p : SeatState) (n : ℕ) : Type 0 where
  pub found : n ≡ slice_index (words c) (index p (length c.seats) k)
  pub words_are : words (made (put c k p) k).core ≡ set (words c) (index p (length c.seats) k) (written p k n)
  pub seats_are : (made (put c k p) k).core.seats ≡ with_entry c.seats k (stepped_by p k n (oldest c.popped)).seat
  pub popped_are : (made (put c k p) k).core.popped ≡ popped_by_step p k n c.popped
  pub turn_is : (made (put c k p) k).turn ≡ (stepped_by p k n (oldest c.popped)).turn

module _ {T : Type 0} (follows : ℕ → T → T → Type 0) (fits : T → ℕ → Type 0) where
  -- the state of the core is the one of which `TablesStand` speaks
  abbrev pub TablesStepAsTheCore : Type 0
  TablesStepAsTheCore =
      (s : State (Option (Moving T)) (View T)) (h : Held follows fits s) (j : ℕ) (v : View T) (p : SeatState) → get_elem? s.views j ≡ some v
      → Became v.state v.limits p → (n : ℕ) × IsEvent h.core (j + 1) p n
