-- The moving value goes with the responsibility: which seat has it, and what a step does with it.
use Rattle.std.specs.Prelude.{◌≡◌, ℕ, Bool, true, false, ◌+◌, Option, Some, None, List, length, set, nat_eq, if◌then◌else◌}
use Rattle.lfm_model.specs.Abstract.{AbstractPlace, free, owner, passed, posted, carried}
use Rattle.lfm_protocol.specs.declared.seats.SeatState.{SeatState}
use Rattle.lfm_words.specs.Popped.{oldest}
use Rattle.lfm_protocol.specs.Begin.{Stepped}
use Rattle.lfm_laws.specs.laws.Cases.{GoesBy}
use Rattle.lfm_protocol.specs.Core.{Core, put}
use Rattle.lfm_laws.specs.laws.Events.{case_of_step, pushed_by, popped_by, answered_by}
use Rattle.lfm_laws.specs.steady.Ghost.{Ghost}
use Rattle.lfm_laws.specs.steady.EventOutcome.{abstract, GoesOn}
use Rattle.lfm_protocol.specs.Place.{carries}
use Rattle.lfm_laws.specs.table.Ready.{IsReady}
use Rattle.lfm_protocol.specs.Seats.{seat, with_entry}
use Rattle.lfm_protocol.specs.Step.{made}
use Rattle.lfm_laws.specs.steady.Steady.{Fits}
use Rattle.lfm_laws.specs.table.Words.{words, index, written, stepped_by, popped_by_step, AreNarrow}

-- the seat has the moving value: it holds, or its call carries the responsibility
abbrev pub carries_value : SeatState → Bool
carries_value x = if nat_eq x.depth 0 then carries x.point else true

-- the seat that has the value; none if the value is in the table's slot, because the mutex is free, granted or posted
abbrev pub out_with : AbstractPlace → Option ℕ
out_with free = None
out_with (owner s) = Some s
out_with (passed s) = None
out_with posted = None
out_with (carried s how) = Some s

-- a seat has the value exactly if the place says so
pub record TellsValue (seats : List SeatState) (place : AbstractPlace) : Type 0 where
  pub out : (s : ℕ) → carries_value (seat seats s) ≡ true → out_with place ≡ Some s
  pub carried : (s : ℕ) → out_with place ≡ Some s → carries_value (seat seats s) ≡ true

-- what a step does with the value
pub data Move : Type 0 where
  gaining : Move
  giving : Move
  staying : Move

-- by whether its seat has the value before it and after it
abbrev pub move_of : Bool → Bool → Move
move_of false false = staying
move_of false true = gaining
move_of true false = giving
move_of true true = staying

-- a seat gains the value from the slot, gives it back to the slot, or leaves every seat's part in it unchanged
abbrev pub MovesValue : List SeatState → List SeatState → ℕ → Move → Type 0
MovesValue before after s gaining =
    ((t : ℕ) → carries_value (seat before t) ≡ false) × (carries_value (seat after s) ≡ true)
MovesValue before after s giving =
    (carries_value (seat before s) ≡ true) × ((t : ℕ) → carries_value (seat after t) ≡ false)
MovesValue before after s staying = (t : ℕ) → carries_value (seat after t) ≡ carries_value (seat before t)

-- what the step of a seat with state p, which finds this number, does with the value
abbrev pub move : SeatState → Stepped → Move
move p stepped = move_of (carries_value p) (carries_value stepped.seat)

-- Seat s, which has become p without a step, makes its next step in state c, which ghost g fits, and finds the number n. The
-- state after it is the one that the core's step makes. The words, the seats and the pop list become what p and n determine.
-- The abstract mutex changes by the case of the step, the seat is ready for its next step, and the value moves as `move` says.
pub record TableStep (c : Core) (g : Ghost) (s : ℕ) (p : SeatState) (n : ℕ) : Type 0 where
  pub after : Core
  pub is_made : after ≡ (made (put c s p) s).core
  pub ghost_after : Ghost
  pub fits : Fits after ghost_after
  pub narrow : AreNarrow after.seats
  pub words_are : words after ≡ set (words c) (index p (length c.seats) s) (written p s n)
  pub seats_are : after.seats ≡ with_entry c.seats s (stepped_by p s n (oldest c.popped)).seat
  pub popped_are : after.popped ≡ popped_by_step p s n c.popped
  pub budget_is : after.budget ≡ c.budget
  pub goes : GoesBy (case_of_step (put c s p) s) (abstract g) (abstract ghost_after)
  pub history : GoesOn g ghost_after (pushed_by (put c s p) s) (popped_by (put c s p) s) (answered_by s (stepped_by p s n (oldest c.popped)).turn)
  pub answers : ghost_after.answered ≡ g.answered + length (answered_by s (stepped_by p s n (oldest c.popped)).turn)
  pub ready : IsReady (length c.seats) s (stepped_by p s n (oldest c.popped)).seat
  pub moved : MovesValue c.seats after.seats s (move p (stepped_by p s n (oldest c.popped)))
