-- The holds that have ended at a table, from the table's rule; and that a close can return only one value.
use Rattle.std.proofs.Common.{◌≡◌, ℕ, ◌<◌, List, [], ◌∷◌, length, sym, refl, ap, subst, ◌∙◌, arith, inl, inr}
use mathlib.Core.Option.{some, some-injective}
use lib.ListN.{get_elem?}
use mathlib.Core.Logic.{dite}
use native.Mathlib.Decide.{ℕ_discrete}
use Rattle.lfm_laws.specs.steady.EventOutcome.{abstract}
use Rattle.lfm_laws.proofs.lawful.read.Readings.{reads_ghost}
use Rattle.lfm_laws.proofs.table.Values.{carried_by_none, tells_value}
use Rattle.lfm_mutex.proofs.LawsHeld.{core_of}
use Rattle.lfm_mutex.specs.Close.{EndedLast, NoneHasEnded, LeftByLastHold}
use Rattle.lfm_mutex.specs.EndedHolds.{LeftByHold, HoldsAreNumbered, OneLastValue}
use Rattle.lfm_mutex.specs.calls.Sight.{Sight}
use Rattle.lfm_table.specs.declared.seat_view.View.{View}
use Rattle.lfm_table.specs.Rule.{LeftIn}
use Rattle.lfm_table.proofs.tables.RuleKept.{some_same}

left_by_hold : {T : Type 0} (views : List (View T)) (n : ℕ) (w : T) → LeftIn views n w → LeftByHold views n w
left_by_hold views n w left = (left.0, left.1, left.2, left.5, left.3)

pub holds_are_numbered : {T : Type 0} (follows : ℕ → T → T → Type 0) (fits : T → ℕ → Type 0) → HoldsAreNumbered follows fits
holds_are_numbered follows fits s h = (
  h.core,
  abstract h.ghost_state,
  h.holds_ended,
  record {
    core = core_of follows fits s h;
    reads = reads_ghost h.core h.ghost_state h.fits;
    numbered = h.numbered;
    home = λ none.
        let x = h.home (carried_by_none h.core.seats (abstract h.ghost_state).place (tells_value h.core h.ghost_state h.fits) none) in
        (x.value, x.here, left_by_hold s.views h.holds_ended x.value.value x.left);
    knows = λ j v at one. (h.outside j v at one).holds;
    carried = λ j v at one flat. let o = h.outside j v at one in (o.value, o.found, left_by_hold s.views h.holds_ended o.value (o.left flat));
  },
)

-- One value

module _ {T : Type 0} (seats : List (Sight T)) (v w : T) (differ : (i j : ℕ) (s t : Sight T) → get_elem? seats i ≡ some s → get_elem? seats j ≡ some t → s.number ≡ t.number → i ≡ j) where
  abbrev Ended : T → Type 0
  Ended x = EndedLast (λ (s : Sight T). s) seats x

  abbrev NoneDid : T → Type 0
  NoneDid x = NoneHasEnded (λ (s : Sight T). s) seats x

  both_ended : Ended v → Ended w → v ≡ w
  both_ended a b = dite (ℕ_discrete a.1.number b.1.number)
      (λ e.
      let place : a.0 ≡ b.0 = differ a.0 b.0 a.1 b.1 a.2 b.2 e in
      let one : a.1 ≡ b.1 = some-injective a.1 b.1 (sym a.2 ∙ subst (λ (i : ℕ). get_elem? seats i ≡ some b.1) (sym place) b.2) in
      some_same v w (sym a.3 ∙ (ap (λ (s : Sight T). s.last) one ∙ b.3)))
      (λ other. absurd (let first = a.5 b.0 b.1 b.2 (λ e. other (sym e)) in let second = b.5 a.0 a.1 a.2 other in omega (arith, first, second)))

  not_both : {x y : T} → Ended x → NoneDid y → ⊥
  not_both a none = let zero_ended = (none a.0 a.1 a.2).0 in let some_ended = a.4 in omega (arith, zero_ended, some_ended)

  neither : (l : List (Sight T)) → l ≡ seats → 0 < length l → NoneDid v → NoneDid w → v ≡ w
  neither [] is some_seat a b = absurd (omega (arith, some_seat))
  neither (x ∷ xs) is some_seat a b =
      let first : get_elem? seats 0 ≡ some x = ap (λ (l : List (Sight T)). get_elem? l 0) (sym is) in
      some_same v w (sym (a 0 x first).1 ∙ (b 0 x first).1)

  one_of : 0 < length seats → LeftByLastHold (λ (s : Sight T). s) seats v → LeftByLastHold (λ (s : Sight T). s) seats w → v ≡ w
  one_of some_seat (inl a) (inl b) = both_ended a b
  one_of some_seat (inl a) (inr b) = absurd (not_both a b)
  one_of some_seat (inr a) (inl b) = absurd (not_both b a)
  one_of some_seat (inr a) (inr b) = neither seats refl some_seat a b

pub one_last_value : {T : Type 0} → OneLastValue T
one_last_value seats v w some_seat differ a b = one_of seats v w differ some_seat a b
