-- A seat can make its next step, and after it what holds of a seat between steps holds again.
use Rattle.std.proofs.Common.{◌≡◌, ◌≢◌, ℕ, ◌+◌, List, [], ◌∷◌, length, sym, refl, ap, ◌∙◌, subst, inl, inr, Option, Some, None}
use Rattle.std.specs.Prelude.{Bool, true, false}
use Rattle.std.proofs.lemmas.Bool.{false≢true}
use Rattle.atomic_table.specs.Table.{Me, rest}
use Rattle.lfm_words.specs.declared.pop_lists.Record.{Record}
use Rattle.lfm_words.specs.Popped.{oldest}
use Rattle.lfm_protocol.specs.declared.answers.Turn.{Turn}
use Rattle.lfm_protocol.specs.declared.kinds.Kind.{Kind}
use Rattle.lfm_protocol.specs.declared.limits.Limits.{Limits}
use Rattle.lfm_protocol.specs.declared.points.Point.{Point}
use Rattle.lfm_protocol.specs.declared.points.Point.TheVariants.{ReleaseOwnerStore}
use Rattle.lfm_protocol.specs.declared.points.Releaser.{Releaser}
use Rattle.lfm_protocol.specs.declared.seats.SeatState.{SeatState}
use Rattle.lfm_protocol.specs.After.{drops_oldest}
use Rattle.lfm_protocol.specs.Begin as Begin
use Rattle.lfm_laws.specs.table.Carried.{carries_value}
use Rattle.lfm_protocol.specs.Points.{kind, target}
use Rattle.lfm_laws.specs.table.Ready.{IsReady}
use Rattle.lfm_laws.specs.table.Words.{stepped_by, popped_by_step, popped_if}
use Rattle.lfm_laws.proofs.table.Unread.{oldest_unread}
use Rattle.lfm_table.specs.declared.seat_view.View.{View}
use Rattle.lfm_table.specs.declared.rule.Moving.{Moving}
use Rattle.lfm_table.specs.Rule.{value_in, in_hand, is_carried, left_by, Hands, Advanced}
use Rattle.lfm_table.specs.Seats.{Seated, Rooted}
use Rattle.lfm_table.specs.Settled.{Became}
use Rattle.lfm_table.specs.Steps.{gives_at, MayBeLeft, Ready, CanMake, dropped, kept_out, put_in, add_by, with_record, Took, oldest_in, ValueGoes, Event, StepLeadsTo}
use Rattle.lfm_table.proofs.tables.RuleKept.{some_same}
use Rattle.lfm_table.proofs.tables.SettledKept.{became_same}
use Rattle.lfm_table.proofs.tables.StepFacts.{release_of, shallow_step, empty_depth, left_same, left_new, carrying, list_stays, gives_carries, keeps_value, carries_unread, unread_after, reads, same_oldest, list_parts, gives_adds_none, reads_list, gives_not_release}

is_some : {A : Type 0} (a : Option A) → is_carried a ≡ true → (x : A) × (a ≡ Some x)
is_some (Some x) e = (x, refl)
is_some None e = absurd (false≢true e)

is_none : {A : Type 0} (a : Option A) → is_carried a ≡ false → a ≡ None
is_none (Some x) e = absurd (false≢true (sym e))
is_none None e = refl

true_or_false : (b : Bool) → b ≡ true → b ≡ false → ⊥
true_or_false b first second = false≢true (sym second ∙ first)

slot_or : {A : Type 0} → A → List (ℕ × A) → A
slot_or d [] = d
slot_or d (x ∷ xs) = x.1

same_slot : {A : Type 0} (x y : A) (xs ys : List (ℕ × A)) → (0, x) ∷ xs ≡ (0, y) ∷ ys → x ≡ y
unfolding slot_or
same_slot x y xs ys e = ap (slot_or x) e

false_of : (b : Bool) → b ≢ true → b ≡ false
false_of true e = absurd (e refl)
false_of false e = refl

value_dropped : {T : Type 0} (p : SeatState) (a : Option (Moving T)) → value_in (dropped p a) ≡ value_in a
value_dropped p (Some x) = refl
value_dropped p None = refl

-- a step that gives the value away is at a point where `gives_at` is true
gives_of : (x : SeatState) (s n : ℕ) (o : Option Record) → carries_value x ≡ true → carries_value (stepped_by x s n o).seat ≡ false → (b : Bool) → gives_at x.point ≡ b → b ≡ true
gives_of x s n o before after true e = refl
gives_of x s n o before after false e = absurd (true_or_false (carries_value (stepped_by x s n o).seat) (keeps_value x s n o e before) after)

module _ {T : Type 0} (follows : ℕ → T → T → Type 0) (suits : T → ℕ → Type 0) (number words id : ℕ) (l : Limits) (p : SeatState) (m : Me (Option (Moving T)) (View T)) (a : Option (Moving T))
    (was : Seated number l p m a) (became : Became m.0.state l p) (ready : IsReady l.seats number p) (rooted : Rooted words id number l m.0) where
  abbrev S : Type 0
  S = Option (Moving T)

  abbrev Mine : Type 0
  Mine = Me (Option (Moving T)) (View T)

  -- the value in hand after the oldest record is taken out
  abbrev shorter : Moving T → Moving T
  shorter x = record x { popped = record x.popped { records = popped_if (drops_oldest p) x.popped.records } }

  -- and after a loaded record is added
  abbrev longer : ℕ → Moving T → Moving T
  longer n x = record x { popped = record x.popped { records = add_by (kind p.point) (target p.point number) n x.popped.records } }

  some_of : carries_value p ≡ true → (x : Moving T) × (a ≡ Some x)
  some_of before = is_some a (was.moved ∙ before)

  none_of : carries_value p ≡ false → a ≡ None
  none_of before = is_none a (was.moved ∙ before)

  -- Before the step

  abbrev slots_before : List (ℕ × S)
  slots_before = put_in (gives_at p.point) (dropped p a) m.1

  abbrev hand_before : S
  hand_before = kept_out (gives_at p.point) (dropped p a)

  no_slots : carries_value p ≡ false → slots_before ≡ []
  no_slots before =
      let b : gives_at p.point ≡ false = false_of (gives_at p.point) (λ e. true_or_false (carries_value p) (carrying p (gives_carries p.point e)) before) in
      ap (λ (g : Bool). put_in g (dropped p a) m.1) b ∙ (was.hand ∙ ap in_hand before)

  loaded_slot : gives_at p.point ≡ true → (x : Moving T) → a ≡ Some x → slots_before ≡ (0, Some (shorter x)) ∷ []
  loaded_slot gives x is =
      let before = carrying p (gives_carries p.point gives) in
      (λ i. put_in (gives i) (dropped p (is i)) m.1) ∙ ap (λ (r : List (ℕ × S)). (0, Some (shorter x)) ∷ rest r) (was.hand ∙ ap in_hand before)

  can_hand : ((r : Releaser) → p.point ≡ ReleaseOwnerStore r → MayBeLeft follows suits a m.0) → Ready follows suits p (value_in hand_before) (m.0, slots_before)
  can_hand leaves = record {
    empty = no_slots;
    loaded = λ n o before after.
        let gives = gives_of p m.0.number n o before after (gives_at p.point) refl in
        let some = some_of before in
        let flat = empty_depth (stepped_by p m.0.number n o).seat after in
        let shallow : p.depth ≡ 0 = (shallow_step p m.0.number n o (gives_not_release p.point gives)).0 flat in (
          shorter some.0,
          loaded_slot gives some.0 some.1,
          was.kept shallow some.0 some.1,
          ap (λ (r : List Record). popped_if (drops_oldest p) r) (was.listed some.0 some.1)
              ∙ (sym (gives_adds_none p.point (target p.point m.0.number) n (popped_if (drops_oldest p) m.0.popped) gives) ∙ list_parts p m.0.number n m.0.popped),
          was.room some.0 some.1 ∙ ap (λ (l : Limits). l.seats) (sym was.limits_are),
        );
    leaves = λ r at before.
        let some = some_of before in
        let may = leaves r at some.0 some.1 in (
          some.0.value,
          ap (λ (q : Point). value_in (kept_out (gives_at q) (dropped p a))) at ∙ (value_dropped p a ∙ ap value_in some.1),
          may.0,
          may.1,
        );
  }

  pub can_make : (a1 : S) (m0 : Mine) → a1 ≡ kept_out (gives_at p.point) (dropped p a) → m0 ≡ (m.0, put_in (gives_at p.point) (dropped p a) m.1)
      → ((r : Releaser) → p.point ≡ ReleaseOwnerStore r → MayBeLeft follows suits a m.0) → CanMake follows suits p (value_in a1) number l.seats words m0
  can_make a1 m0 is_a is_m leaves = subst (λ (t : S × Mine). CanMake follows suits p (value_in t.0) number l.seats words t.1) (λ i. (sym is_a i, sym is_m i)) (record {
    user = was.user;
    named = was.named;
    seats_are = ap (λ (l : Limits). l.seats) was.limits_are;
    wide = rooted.wide;
    few = rooted.few;
    became = subst (λ (k : Limits). Became m.0.state k p) (sym was.limits_are) became;
    ready = ready;
    hand = can_hand leaves;
  })

  -- the seat has the slot if the value is put there
  pub own_slot : gives_at p.point ≡ true → (x : S) × (m.1 ≡ (0, x) ∷ rest m.1)
  own_slot gives = let h = was.hand ∙ ap in_hand (carrying p (gives_carries p.point gives)) in (None, h ∙ ap (λ (r : List (ℕ × S)). (0, None) ∷ rest r) (sym h))

  -- After the step

  module _ (n : ℕ) (m1 : Mine) (did : Advanced follows suits p (value_in hand_before) (m.0, slots_before) n m1) (a3 : S) (m2 : Mine) (took : Took (is_carried (with_record p number n hand_before)) (carries_value (stepped_by p number n None).seat) (with_record p number n hand_before) m1 a3 m2) where
    abbrev o : Option Record
    o = oldest did.popped

    abbrev st : Begin.Stepped
    st = stepped_by p number n o

    abbrev Known : S → Mine → Type 0
    Known a3 m2 = (m2.1 ≡ in_hand (carries_value st.seat)) × (is_carried a3 ≡ carries_value st.seat) × ((x : Moving T) → a3 ≡ Some x → (x.popped.records ≡ m1.0.popped) × (x.popped.room ≡ l.seats))
        × (st.seat.depth ≡ 0 → (x : Moving T) → a3 ≡ Some x → m1.0.found ≡ Some x.value) × (stepped_by p number n (oldest_in a3) ≡ st) × ValueGoes (carries_value p) (carries_value st.seat) a a3 m1.0 × (m2.0 ≡ m1.0)

    abbrev HandsAt : Bool → Bool → Type 0
    HandsAt b b' = Hands follows suits b b' p.point (value_in hand_before) did.popped (m.0, slots_before) m1

    hands_are : HandsAt (carries_value p) (carries_value st.seat)
    hands_are = subst (λ (k : ℕ). HandsAt (carries_value p) (carries_value (stepped_by p k n o).seat)) was.named did.hands

    tried : (b : Bool) → carries_value st.seat ≡ b → carries_value (stepped_by p number n None).seat ≡ b
    tried b is = carries_unread p number n None o ∙ is

    abbrev Taken : Bool → Bool → S → Type 0
    Taken c b a2 = Took c b a2 m1 a3 m2

    listed_is : m1.0.popped ≡ popped_by_step p number n did.popped
    listed_is = subst (λ (k : ℕ). m1.0.popped ≡ popped_by_step p k n did.popped) was.named did.listed

    none_before : carries_value p ≡ false → hand_before ≡ None
    none_before before =
        let b : gives_at p.point ≡ false = false_of (gives_at p.point) (λ e. true_or_false (carries_value p) (carrying p (gives_carries p.point e)) before) in
        λ i. kept_out (b i) (dropped p (none_of before i))

    none_given : gives_at p.point ≡ true → hand_before ≡ None
    none_given gives = ap (λ (g : Bool). kept_out g (dropped p a)) gives

    nothing : (x : Moving T) → ◌≡◌ {A = S} None (Some x) → ⊥
    nothing x e = absurd (cc)

    -- the seat carries the value neither before nor after the step
    idle_known : carries_value p ≡ false → carries_value st.seat ≡ false → Known a3 m2
    idle_known before after =
        let was_none = none_before before in
        let took1 = subst (λ (t : S × Bool). Taken (is_carried t.0) t.1 t.0) (λ i. ((ap (with_record p number n) was_none) i, tried false after i)) took in
        let hands = subst (λ (t : Bool × Bool). HandsAt t.0 t.1) (λ i. (before i, after i)) hands_are in (
          ap (λ (z : Mine). z.1) took1.1 ∙ (hands ∙ (no_slots before ∙ ap in_hand (sym after))),
          ap is_carried took1.0 ∙ sym after,
          (λ x e. absurd (nothing x (sym took1.0 ∙ e))),
          (λ deep x e. absurd (nothing x (sym took1.0 ∙ e))),
          ap (λ (r : Option Record). stepped_by p number n r) (ap oldest_in took1.0) ∙ sym (oldest_unread p number n o None before after),
          subst (λ (t : Bool × Bool). ValueGoes t.0 t.1 a a3 m1.0) (λ i. (sym before i, sym after i)) (none_of before, took1.0),
          ap (λ (z : Mine). z.0) took1.1,
        )

    gained_known : carries_value p ≡ false → carries_value st.seat ≡ true → Known a3 m2
    gained_known before after =
        let was_none = none_before before in
        let took1 = subst (λ (t : S × Bool). Taken (is_carried t.0) t.1 t.0) (λ i. ((ap (with_record p number n) was_none) i, tried true after i)) took in
        let hands = subst (λ (t : Bool × Bool). HandsAt t.0 t.1) (λ i. (before i, after i)) hands_are in
        let x = hands.0 in
        let got : a3 ≡ Some x = same_slot a3 (Some x) (rest m1.1) [] (sym took1.0 ∙ hands.1) in
        let same : (y : Moving T) → a3 ≡ Some y → x ≡ y = (λ y e. some_same x y (sym got ∙ e)) in
        let list : x.popped.records ≡ m1.0.popped = hands.2 ∙ sym (listed_is ∙ list_stays p number n did.popped before) in (
          ap (λ (z : Mine). z.1) took1.1 ∙ (ap (λ (r : List (ℕ × S)). (0, None) ∷ rest r) hands.1 ∙ ap in_hand (sym after)),
          ap is_carried got ∙ sym after,
          (λ y e. subst (λ (z : Moving T). (z.popped.records ≡ m1.0.popped) × (z.popped.room ≡ l.seats)) (same y e) (list, hands.3 ∙ ap (λ (l : Limits). l.seats) was.limits_are)),
          (λ deep y e. hands.4 ∙ ap (λ (z : Moving T). Some z.value) (same y e)),
          ap (λ (r : Option Record). stepped_by p number n r) (ap oldest_in got ∙ ap oldest hands.2),
          subst (λ (t : Bool × Bool). ValueGoes t.0 t.1 a a3 m1.0) (λ i. (sym before i, sym after i)) (none_of before, (x, got, hands.4)),
          ap (λ (z : Mine). z.0) took1.1,
        )

    given_known : carries_value p ≡ true → carries_value st.seat ≡ false → Known a3 m2
    given_known before after =
        let gives = gives_of p number n o before after (gives_at p.point) refl in
        let was_none = none_given gives in
        let took1 = subst (λ (t : S × Bool). Taken (is_carried t.0) t.1 t.0) (λ i. ((ap (with_record p number n) was_none) i, tried false after i)) took in
        let hands = subst (λ (t : Bool × Bool). HandsAt t.0 t.1) (λ i. (before i, after i)) hands_are in (
          ap (λ (z : Mine). z.1) took1.1 ∙ (hands ∙ ap in_hand (sym after)),
          ap is_carried took1.0 ∙ sym after,
          (λ x e. absurd (nothing x (sym took1.0 ∙ e))),
          (λ deep x e. absurd (nothing x (sym took1.0 ∙ e))),
          ap (λ (r : Option Record). stepped_by p number n r) (ap oldest_in took1.0) ∙ sym (unread_after p number n o None after),
          subst (λ (t : Bool × Bool). ValueGoes t.0 t.1 a a3 m1.0) (λ i. (sym before i, sym after i)) took1.0,
          ap (λ (z : Mine). z.0) took1.1,
        )

    -- x is in hand before the step and x3 after it
    module _ (before : carries_value p ≡ true) (after : carries_value st.seat ≡ true) (x x3 : Moving T) (is : a ≡ Some x) (got : a3 ≡ Some x3) (value : x3.value ≡ x.value) (room : x3.popped.room ≡ x.popped.room)
        (list : x3.popped.records ≡ add_by (kind p.point) (target p.point number) n (popped_if (drops_oldest p) x.popped.records)) (hand : m2.1 ≡ in_hand true) (view : m2.0 ≡ m1.0)
        (value_kept : (r : Releaser) → p.point ≡ ReleaseOwnerStore r → value_in hand_before ≡ Some x.value) where
      had : did.popped ≡ m.0.popped
      had = did.had before

      list_is : x3.popped.records ≡ m1.0.popped
      list_is = list ∙ (list_parts p number n x.popped.records ∙ (ap (λ (r : List Record). popped_by_step p number n r) (was.listed x is ∙ sym had) ∙ sym listed_is))

      oldest_is : reads (kind p.point) ≡ true → oldest x3.popped.records ≡ o
      oldest_is e = ap oldest (list ∙ (reads_list p.point (target p.point number) n x.popped.records e ∙ (was.listed x is ∙ sym had)))

      found_is : m1.0.found ≡ left_by p.point (value_in hand_before) m.0.found
      found_is = let hands = subst (λ (t : Bool × Bool). HandsAt t.0 t.1) (λ i. (before i, after i)) hands_are in hands.1

      kept_is : st.seat.depth ≡ 0 → m1.0.found ≡ Some x3.value
      kept_is flat = found_is ∙ elim (release_of p.point) [
        | inl r ↦ left_new p.point r.0 (value_in hand_before) m.0.found r.1 ∙ (value_kept r.0 r.1 ∙ ap Some (sym value))
        | inr other ↦ left_same p.point (value_in hand_before) m.0.found other ∙ (was.kept ((shallow_step p number n o other).0 flat) x is ∙ ap Some (sym value))
      ]

      same : (y : Moving T) → a3 ≡ Some y → x3 ≡ y
      same y e = some_same x3 y (sym got ∙ e)

      stays_known : Known a3 m2
      stays_known = (
        hand ∙ ap in_hand (sym after),
        ap is_carried got ∙ sym after,
        (λ y e. subst (λ (z : Moving T). (z.popped.records ≡ m1.0.popped) × (z.popped.room ≡ l.seats)) (same y e) (list_is, room ∙ was.room x is)),
        (λ deep y e. kept_is deep ∙ ap (λ (z : Moving T). Some z.value) (same y e)),
        same_oldest p number n (oldest_in a3) o (λ e. ap oldest_in got ∙ oldest_is e),
        subst (λ (t : Bool × Bool). ValueGoes t.0 t.1 a a3 m1.0) (λ i. (sym before i, sym after i)) (x3, ap value_in is ∙ ap Some (sym value), got),
        view,
      )

    kept_known : (b : Bool) → gives_at p.point ≡ b → carries_value p ≡ true → carries_value st.seat ≡ true → Known a3 m2
    kept_known true gives before after =
        let some = some_of before in
        let x = some.0 in
        let was_none = none_given gives in
        let took1 = subst (λ (t : S × Bool). Taken (is_carried t.0) t.1 t.0) (λ i. ((ap (with_record p number n) was_none) i, tried true after i)) took in
        let hands = subst (λ (t : Bool × Bool). HandsAt t.0 t.1) (λ i. (before i, after i)) hands_are in
        let slots : m1.1 ≡ (0, Some (shorter x)) ∷ [] = hands.0 ∙ loaded_slot gives x some.1 in
        let got : a3 ≡ Some (shorter x) = same_slot a3 (Some (shorter x)) (rest m1.1) [] (sym took1.0 ∙ slots) in
        stays_known before after x (shorter x) some.1 got refl refl (sym (gives_adds_none p.point (target p.point number) n (popped_if (drops_oldest p) x.popped.records) gives))
        (ap (λ (z : Mine). z.1) took1.1 ∙ ap (λ (r : List (ℕ × S)). (0, None) ∷ rest r) slots) (ap (λ (z : Mine). z.0) took1.1) (λ r at. absurd (gives_not_release p.point gives r at))
    kept_known false keeps before after =
        let some = some_of before in
        let x = some.0 in
        let hand_is : hand_before ≡ Some (shorter x) = (λ i. kept_out (keeps i) (dropped p (some.1 i))) in
        let took1 = subst (λ (t : S × Bool). Taken (is_carried t.0) t.1 t.0) (λ i. ((ap (with_record p number n) hand_is) i, tried true after i)) took in
        let hands = subst (λ (t : Bool × Bool). HandsAt t.0 t.1) (λ i. (before i, after i)) hands_are in
        let slots : slots_before ≡ in_hand true = ap (λ (g : Bool). put_in g (dropped p a) m.1) keeps ∙ (was.hand ∙ ap in_hand before) in
        stays_known before after x (longer n (shorter x)) some.1 took1.0 refl refl refl
        (ap (λ (z : Mine). z.1) took1.1 ∙ (hands.0 ∙ slots)) (ap (λ (z : Mine). z.0) took1.1) (λ r at. ap value_in hand_is)

    by_carrying : (b b' : Bool) → carries_value p ≡ b → carries_value st.seat ≡ b' → Known a3 m2
    by_carrying false false e e' = idle_known e e'
    by_carrying false true e e' = gained_known e e'
    by_carrying true false e e' = given_known e e'
    by_carrying true true e e' = kept_known (gives_at p.point) refl e e'

    known : Known a3 m2
    known = by_carrying (carries_value p) (carries_value st.seat) refl refl

    -- what was in hand when the hold ended
    hand_same : (r : Releaser) → p.point ≡ ReleaseOwnerStore r → value_in hand_before ≡ value_in a
    hand_same r at = ap (λ (q : Point). value_in (kept_out (gives_at q) (dropped p a))) at ∙ value_dropped p a

  pub record Made (turn : Turn) (q : SeatState) (a3 : S) (m2 : Mine) : Type 0 where
    pub seated : Seated number l q m2 a3
    pub became_now : Became m2.0.state l q
    pub ready_now : IsReady l.seats number q
    pub rooted_now : Rooted words id number l m2.0
    pub event : Event follows suits p a m.0 turn q a3 m2.0

  module _ (n : ℕ) (m1 : Mine) (did : Advanced follows suits p (value_in hand_before) (m.0, slots_before) n m1) (a3 : S) (m2 : Mine) (took : Took (is_carried (with_record p number n hand_before)) (carries_value (stepped_by p number n None).seat) (with_record p number n hand_before) m1 a3 m2)
      (turn : Turn) (q : SeatState) (is_q : q ≡ (stepped_by p number n (oldest_in a3)).seat) (is_turn : turn ≡ (stepped_by p number n (oldest_in a3)).turn) where
    abbrev then_st : Begin.Stepped
    then_st = stepped_by p number n (oldest did.popped)

    abbrev facts : Known n m1 did a3 m2 took a3 m2
    facts = known n m1 did a3 m2 took

    q_is : then_st.seat ≡ q
    q_is = sym (is_q ∙ ap (λ (z : Begin.Stepped). z.seat) facts.4)

    turn_is : then_st.turn ≡ turn
    turn_is = sym (is_turn ∙ ap (λ (z : Begin.Stepped). z.turn) facts.4)

    view_is : m2.0 ≡ m1.0
    view_is = facts.6

    seated_now : Seated number l then_st.seat m2 a3
    seated_now = record {
      user = ap (λ (v : View T). v.role) view_is ∙ (did.role ∙ was.user);
      named = ap (λ (v : View T). v.number) view_is ∙ (did.root.number ∙ was.named);
      limits_are = ap (λ (v : View T). v.limits) view_is ∙ (did.root.limits_are ∙ was.limits_are);
      hand = facts.0;
      moved = facts.1;
      listed = λ x e. (facts.2 x e).0 ∙ ap (λ (v : View T). v.popped) (sym view_is);
      room = λ x e. (facts.2 x e).1;
      kept = λ deep x e. ap (λ (v : View T). v.found) view_is ∙ facts.3 deep x e;
    }

    state_is : m2.0.state ≡ then_st.seat
    state_is = ap (λ (v : View T). v.state) view_is ∙ (did.state ∙ ap (λ (k : ℕ). (stepped_by p k n (oldest did.popped)).seat) was.named)

    event_now : Event follows suits p a m.0 then_st.turn then_st.seat a3 m1.0
    event_now = record {
      found = n;
      hand = value_in hand_before;
      slots = slots_before;
      slots_after = m1.1;
      did = did;
      seat_is = ap (λ (k : ℕ). (stepped_by p k n (oldest did.popped)).seat) (sym was.named);
      turn_is = ap (λ (k : ℕ). (stepped_by p k n (oldest did.popped)).turn) (sym was.named);
      value = facts.5;
      in_hand = hand_same n m1 did a3 m2 took;
    }

    made_by : Made turn q a3 m2
    made_by = subst (λ (t : Turn × SeatState). Made t.0 t.1 a3 m2) (λ i. (turn_is i, q_is i)) (record {
      seated = seated_now;
      became_now = subst (λ (x : SeatState). Became x l then_st.seat) (sym state_is) (became_same then_st.seat l);
      ready_now = subst (λ (t : ℕ × ℕ). IsReady t.0 t.1 (stepped_by p t.1 n (oldest did.popped)).seat) (λ i. (ap (λ (l : Limits). l.seats) was.limits_are i, was.named i)) did.ready;
      rooted_now = record {
        low = rooted.low;
        high = rooted.high;
        few = rooted.few;
        wide = rooted.wide;
        first = rooted.first;
        made = λ e. ap (λ (k : ℕ). k + 1) (ap (λ (v : View T). v.made) view_is ∙ did.root.made) ∙ rooted.made e;
        back = λ e. ap (λ (v : View T). length v.joined) view_is ∙ (ap (λ g. length g) did.root.joined_are ∙ rooted.back e);
      };
      event = subst (λ (v : View T). Event follows suits p a m.0 then_st.turn then_st.seat a3 v) (sym view_is) event_now;
    })

  -- the whole step, composed of its parts
  pub made : (n : ℕ) (a1 a2 a3 : S) (m0 m1 m2 : Mine) (q : SeatState) (turn : Turn) → a1 ≡ kept_out (gives_at p.point) (dropped p a) → m0 ≡ (m.0, put_in (gives_at p.point) (dropped p a) m.1)
      → Advanced follows suits p (value_in a1) m0 n m1 → a2 ≡ with_record p number n a1 → Took (is_carried a2) (carries_value (stepped_by p number n None).seat) a2 m1 a3 m2
      → q ≡ (stepped_by p number n (oldest_in a3)).seat → turn ≡ (stepped_by p number n (oldest_in a3)).turn → Made turn q a3 m2
  made n a1 a2 a3 m0 m1 m2 q turn is_a is_m did is_a2 took is_q is_turn =
      made_by n m1 (subst (λ (z : S × Mine). Advanced follows suits p (value_in z.0) z.1 n m1) (λ i. (is_a i, is_m i)) did) a3 m2
      (subst (λ (z : S). Took (is_carried z) (carries_value (stepped_by p number n None).seat) z m1 a3 m2) (is_a2 ∙ ap (with_record p number n) is_a) took)
      turn q is_q is_turn

  -- the same, with the results of the parts given as equations
  pub made_next : (n : ℕ) (gives : Bool) (a0 a1 a2 a3 : S) (m0 m1 m2 : Mine) (q : SeatState) (turn : Turn) (oldest : Option Record) → gives ≡ gives_at p.point → a0 ≡ dropped p a
      → a1 ≡ kept_out gives a0 → m0 ≡ (m.0, put_in gives a0 m.1) → Advanced follows suits p (value_in a1) m0 n m1 → a2 ≡ with_record p number n a1
      → Took (is_carried a2) (carries_value (stepped_by p number n None).seat) a2 m1 a3 m2 → oldest ≡ oldest_in a3 → q ≡ (stepped_by p number n oldest).seat → turn ≡ (stepped_by p number n oldest).turn → Made turn q a3 m2
  made_next n gives a0 a1 a2 a3 m0 m1 m2 q turn oldest is_gives is_a0 is_a is_m did is_a2 took is_o is_q is_turn =
      made n a1 a2 a3 m0 m1 m2 q turn (is_a ∙ (λ i. kept_out (is_gives i) (is_a0 i))) (is_m ∙ (λ i. (m.0, put_in (is_gives i) (is_a0 i) m.1))) did is_a2 took
      (is_q ∙ ap (λ (o : Option Record). (stepped_by p number n o).seat) is_o) (is_turn ∙ ap (λ (o : Option Record). (stepped_by p number n o).turn) is_o)

  -- The slot from which the value is taken out

  module _ (n : ℕ) (m1 : Mine) (did : Advanced follows suits p (value_in hand_before) (m.0, slots_before) n m1) where
    abbrev AfterHands : Bool → Type 0
    AfterHands b = Hands follows suits b true p.point (value_in hand_before) did.popped (m.0, slots_before) m1

    hands_after : (b : Bool) → carries_value p ≡ b → carries_value (stepped_by p number n (oldest did.popped)).seat ≡ true → AfterHands b
    hands_after b is after =
        subst (λ (t : Bool × Bool). Hands follows suits t.0 t.1 p.point (value_in hand_before) did.popped (m.0, slots_before) m1)
        (λ i. (is i, (ap (λ (k : ℕ). carries_value (stepped_by p k n (oldest did.popped)).seat) was.named ∙ after) i)) did.hands

    slot_by : (b g : Bool) → carries_value p ≡ b → gives_at p.point ≡ g → is_carried (with_record p number n hand_before) ≡ false → carries_value (stepped_by p number n (oldest did.popped)).seat ≡ true
        → (x : S) × (m1.1 ≡ (0, x) ∷ rest m1.1)
    slot_by false g is gives none after =
        let h = hands_after false is after in (Some h.0, h.1 ∙ ap (λ (r : List (ℕ × S)). (0, Some h.0) ∷ rest r) (sym h.1))
    slot_by true true is gives none after =
        let h = hands_after true is after in
        let some = some_of is in
        let e : m1.1 ≡ (0, Some (shorter some.0)) ∷ [] = h.0 ∙ loaded_slot gives some.0 some.1 in
        (Some (shorter some.0), e ∙ ap (λ (r : List (ℕ × S)). (0, Some (shorter some.0)) ∷ rest r) (sym e))
    slot_by true false is keeps none after =
        let some = some_of is in
        let hand_is : hand_before ≡ Some (shorter some.0) = (λ i. kept_out (keeps i) (dropped p (some.1 i))) in
        absurd (false≢true (sym none ∙ ap (λ (z : S). is_carried (with_record p number n z)) hand_is))

    slot : is_carried (with_record p number n hand_before) ≡ false → carries_value (stepped_by p number n None).seat ≡ true → (x : S) × (m1.1 ≡ (0, x) ∷ rest m1.1)
    slot none c = slot_by (carries_value p) (gives_at p.point) refl refl none (carries_unread p number n (oldest did.popped) None ∙ c)

  pub slot_there : (n : ℕ) (a1 a2 : S) (m0 m1 : Mine) → a1 ≡ kept_out (gives_at p.point) (dropped p a) → m0 ≡ (m.0, put_in (gives_at p.point) (dropped p a) m.1)
      → Advanced follows suits p (value_in a1) m0 n m1 → a2 ≡ with_record p number n a1 → is_carried a2 ≡ false → carries_value (stepped_by p number n None).seat ≡ true → (x : S) × (m1.1 ≡ (0, x) ∷ rest m1.1)
  slot_there n a1 a2 m0 m1 is_a is_m did is_a2 none c =
      slot n m1 (subst (λ (z : S × Mine). Advanced follows suits p (value_in z.0) z.1 n m1) (λ i. (is_a i, is_m i)) did) (ap is_carried (sym (is_a2 ∙ ap (with_record p number n) is_a)) ∙ none) c

-- an event, if a call is open
pub open_event : {T : Type 0} (follows : ℕ → T → T → Type 0) (suits : T → ℕ → Type 0) (k : Option Kind) (p p' : SeatState) (m m' : Me (Option (Moving T)) (View T)) (a a' : Option (Moving T)) (turn : Turn) → k ≢ None
    → Event follows suits p a m.0 turn p' a' m'.0 → StepLeadsTo k follows suits p a m turn p' a' m'
open_event follows suits None p p' m m' a a' turn some event = absurd (some refl)
open_event follows suits (Some k) p p' m m' a a' turn some event = event
