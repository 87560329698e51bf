-- A step of a seat in one mutex, by what holds of its part of the view.
use Rattle.std.proofs.Common.{◌≡◌, ℕ, ◌+◌, ◌*◌, List, ◌∷◌, refl, sym, ap, ◌∙◌, subst, Some, None}
use Rattle.std.specs.Prelude.{⊤, Bool, true, false}
use Rattle.std.proofs.lemmas.Bool.{false≢true}
use Rattle.atomic_table.specs.Table.{Me, rest}
use Rattle.lfm_protocol.specs.declared.limits.Limits.{Limits}
use Rattle.lfm_protocol.specs.declared.seats.SeatState.{SeatState}
use Rattle.lfm_laws.specs.steady.Steady.{DepthAt}
use Rattle.lfm_laws.specs.table.Carried.{carries_value}
use Rattle.lfm_laws.specs.table.Words.{stepped_by, popped_by_step}
use Rattle.lfm_words.specs.Popped.{oldest}
use Rattle.lfm_table.specs.declared.seat_view.View.{View}
use Rattle.lfm_table.specs.declared.rule.Moving.{Moving}
use Rattle.lfm_table.specs.FastPath.{Fit}
use Rattle.lfm_table.specs.Rule.{Advanced, in_hand, is_carried}
use Rattle.lfm_table.specs.Actions.{RunGoesOnBy, begins_and_step}
use Rattle.lfm_table.specs.Steps.{CanMake, gives_at, dropped, kept_out, with_record, Took, oldest_in}
use Rattle.lfm_table.proofs.tables.SeatKept as Kept
use Rattle.lfm_pool.specs.Tables.{any_follows, any_fits, Slot}
use Rattle.lfm_pool.specs.Steps.{hand_if, hand_of, hand_out, slots_out, Sits, Stepped}

-- A seat with nothing of a mutex, or with its pop list and no value, has what its view says

one_unit : (x : ⊤) → x ≡ tt
one_unit tt = refl

hand_by : (b : Bool) (seats : ℕ) (v : View ⊤) (a : Slot) → is_carried a ≡ b → ((x : Moving ⊤) → a ≡ Some x → x.popped.records ≡ v.popped) → ((x : Moving ⊤) → a ≡ Some x → x.popped.room ≡ seats) → a ≡ hand_if b seats v
hand_by true seats v (Some x) carried listed room =
    λ i. Some (record { popped = record { records = listed x refl i; room = room x refl i }; value = one_unit x.value i })
hand_by true seats v None carried listed room = absurd (false≢true carried)
hand_by false seats v (Some x) carried listed room = absurd (false≢true (sym carried))
hand_by false seats v None carried listed room = refl

module _ (number id : ℕ) (l : Limits) (p : SeatState) (v : View ⊤) (sits : Sits number id l p v) where
  abbrev a1 : Slot
  a1 = kept_out (gives_at p.point) (dropped p (hand_of l.seats p v))

  abbrev m0 : Me Slot (View ⊤)
  m0 = (v, slots_out l.seats p v)

  pub can_step : CanMake any_follows any_fits p (hand_out l.seats p v) number l.seats (4 + 2 * l.seats) (v, slots_out l.seats p v)
  can_step =
      Kept.can_make any_follows any_fits number (4 + 2 * l.seats) id l p (v, in_hand (carries_value p)) (hand_of l.seats p v) sits.seated sits.became sits.ready sits.rooted
      (kept_out (gives_at p.point) (dropped p (hand_of l.seats p v))) (v, slots_out l.seats p v) refl refl (λ r at x e. (tt, λ y f. tt))

  module _ (n : ℕ) (w : View ⊤) (after : List (ℕ × Slot)) (did : Advanced any_follows any_fits p (hand_out l.seats p v) (v, slots_out l.seats p v) n (w, after)) (deep_now : DepthAt w.state.depth w.state.point) where
    -- what the seat has after the step, before it takes the value out of the slot
    abbrev a2 : Slot
    a2 = with_record p number n a1

    abbrev Taken : Bool → Bool → Type 0
    Taken b c = (a3 : Slot) × (slots : List (ℕ × Slot)) × Took b c a2 (w, after) a3 (w, slots)

    taken : (b c : Bool) → is_carried a2 ≡ b → carries_value (stepped_by p number n None).seat ≡ c → Taken b c
    taken true c e f = (a2, after, (refl, refl))
    taken false false e f = (a2, after, (refl, refl))
    taken false true e f =
        let there = Kept.slot_there any_follows any_fits number (4 + 2 * l.seats) id l p (v, in_hand (carries_value p)) (hand_of l.seats p v) sits.seated sits.became sits.ready sits.rooted
        n a1 a2 (v, slots_out l.seats p v) (w, after) refl refl did refl e f in
        (there.0, (0, None) ∷ rest after, (there.1, refl))

    abbrev got : Taken (is_carried a2) (carries_value (stepped_by p number n None).seat)
    got = taken (is_carried a2) (carries_value (stepped_by p number n None).seat) refl refl

    abbrev q : SeatState
    q = (stepped_by p number n (oldest_in got.0)).seat

    abbrev made : Kept.Made any_follows any_fits number (4 + 2 * l.seats) id l p (v, in_hand (carries_value p)) (hand_of l.seats p v) sits.seated sits.became sits.ready sits.rooted (stepped_by p number n (oldest_in got.0)).turn (stepped_by p number n (oldest_in got.0)).seat got.0 (w, got.1)
    made =
        Kept.made any_follows any_fits number (4 + 2 * l.seats) id l p (v, in_hand (carries_value p)) (hand_of l.seats p v) sits.seated sits.became sits.ready sits.rooted
        n a1 a2 got.0 (v, slots_out l.seats p v) (w, after) (w, got.1) (stepped_by p number n (oldest_in got.0)).seat (stepped_by p number n (oldest_in got.0)).turn refl refl did refl got.2 refl refl

    state_is : q ≡ w.state
    state_is = made.event.seat_is ∙ sym made.event.did.state

    hand_is : got.0 ≡ hand_of l.seats q w
    hand_is = hand_by (carries_value q) l.seats w got.0 made.seated.moved made.seated.listed made.seated.room

    pub sits_after : Sits number id l w.state w
    sits_after =
        subst (λ (x : SeatState). Sits number id l x w) state_is
        (subst (λ (z : List (ℕ × Slot) × Slot). Fit number (4 + 2 * l.seats) id l q (w, z.0) z.1) (λ i. (made.seated.hand i, hand_is i))
        (record { seated = made.seated; became = made.became_now; ready = made.ready_now; rooted = made.rooted_now }))

    pub stepped : Stepped number p v n w
    stepped = record {
      popped = did.popped;
      had = did.had;
      deep = did.deep;
      deep_now = deep_now;
      room = did.room;
      state = did.state ∙ ap (λ (i : ℕ). (stepped_by p i n (oldest did.popped)).seat) sits.seated.named;
      listed = did.listed ∙ ap (λ (i : ℕ). popped_by_step p i n did.popped) sits.seated.named;
      trail = did.trail;
      run = subst (λ (i : ℕ). RunGoesOnBy (begins_and_step i v.state p) v w) sits.seated.named did.run;
    }
