-- The cond seats and plain seats of a pass as they are made, one for each new condition.
use Rattle.std.proofs.Common.{◌≡◌, ℕ, List, [], ◌∷◌, ◌++◌, length, sym, ◌∙◌, ap}
use mathlib.Core.Option.{some, some-ne-none}
use lib.ListN.{get_elem?}
use Rattle.lfm_mutex.specs.declared.pace.Pace.{Pace}
use Rattle.lfm_condvar.specs.declared.condvar.Condvar.{Condvar}
use Rattle.lfm_condvar.specs.declared.cond_seat.CondSeat.{CondSeat}
use Rattle.lfm_condvar.specs.Belongs.{OfCondvar}
use Rattle.lfm_plain_condvar.specs.declared.condvar.PlainCondvar.{PlainCondvar}
use Rattle.lfm_plain_condvar.specs.declared.plain_seat.PlainSeat.{PlainSeat}
use Rattle.lfm_plain_condvar.specs.Belongs.{OfPlain}
use Rattle.lfm_monitor.specs.CondSeats.{IsNewSeat, AreNewOf}
use Rattle.lfm_monitor.specs.PlainSeats.{AreNewPlainSeatsOf, ArePlainConditions, ArePlainPaced, IsNewPlainSeat}
use Rattle.lfm_monitor.proofs.Pairing.{paired_more}
use Rattle.lfm_monitor.proofs.Places.{each_more}

-- one more cond seat, for one more condition
pub one_new : (passes number : ℕ) (seats seats' : List CondSeat) (conditions conditions' : List Condvar) (c : CondSeat) (v : Condvar) → seats' ≡ seats ++ c ∷ [] → conditions' ≡ conditions ++ v ∷ []
    → AreNewOf passes number seats conditions → OfCondvar c v → IsNewSeat passes number c → AreNewOf passes number seats' conditions'
one_new passes number seats seats' conditions conditions' c v grown more old of new = (
  paired_more (λ (c : CondSeat) (v : Condvar). OfCondvar c v) seats seats' conditions conditions' c v grown more old.0 of,
  each_more (λ i x. IsNewSeat passes number x) seats seats' c grown old.1 new,
)

-- one more plain seat, for one more plain condition
pub one_new_plain : (passes number : ℕ) (seats seats' : List PlainSeat) (conditions conditions' : List PlainCondvar) (c : PlainSeat) (v : PlainCondvar) → seats' ≡ seats ++ c ∷ [] → conditions' ≡ conditions ++ v ∷ []
    → AreNewPlainSeatsOf passes number seats conditions → OfPlain c v → IsNewPlainSeat passes number c → AreNewPlainSeatsOf passes number seats' conditions'
one_new_plain passes number seats seats' conditions conditions' c v grown more old of new = (
  paired_more (λ (c : PlainSeat) (v : PlainCondvar). OfPlain c v) seats seats' conditions conditions' c v grown more old.0 of,
  each_more (λ i x. IsNewPlainSeat passes number x) seats seats' c grown old.1 new,
)

nothing_there : {A : Type 0} (xs : List A) (i : ℕ) (x : A) → xs ≡ [] → get_elem? xs i ≡ some x → ⊥
nothing_there xs i x none at = some-ne-none x (sym (sym (ap (λ l. get_elem? l i) none) ∙ at))

-- no condition has been made yet
pub none_new_plain : (passes number : ℕ) (seats : List PlainSeat) (conditions : List PlainCondvar) → seats ≡ [] → conditions ≡ [] → AreNewPlainSeatsOf passes number seats conditions
none_new_plain passes number seats conditions none empty = (
  record { long = ap length none ∙ sym (ap length empty); each = λ i c v ac av. absurd (nothing_there seats i c none ac) },
  λ i c at. absurd (nothing_there seats i c none at),
)

pub none_plain : (seats : ℕ) (conditions : List PlainCondvar) → conditions ≡ [] → ArePlainConditions seats conditions
none_plain seats conditions empty i v at = absurd (nothing_there conditions i v empty at)

pub none_plain_paced : (pace : Pace) (conditions : List PlainCondvar) → conditions ≡ [] → ArePlainPaced pace conditions
none_plain_paced pace conditions empty i v at = absurd (nothing_there conditions i v empty at)
