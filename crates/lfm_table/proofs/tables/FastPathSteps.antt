-- A single step of a fast path: what it requires of its seat, and what the seat is after it.
use Rattle.std.proofs.Common.{◌≡◌, ◌≢◌, ℕ, List, ◌∷◌, sym, refl, ap, ◌∙◌, subst, Option, Some, None}
use Rattle.std.specs.Prelude.{Bool, true, false}
use Rattle.std.proofs.lemmas.Bool.{false≢true}
use Rattle.atomic_table.specs.Table.{Me, rest}
use Rattle.lfm_words.specs.declared.pop_lists.Record.{Record}
use Rattle.lfm_protocol.specs.declared.kinds.Kind.{Kind}
use Rattle.lfm_protocol.specs.declared.limits.Limits.{Limits}
use Rattle.lfm_protocol.specs.declared.points.Point.{Point}
use Rattle.lfm_protocol.specs.declared.points.Point.TheVariants.{ReleaseOwnerStore, GrantWakeStore, EnterOwnerStore, SendWakeStore, ReleaseCountSubtract, ReleaseHandoffStore}
use Rattle.lfm_protocol.specs.declared.points.Releaser.{Releaser}
use Rattle.lfm_protocol.specs.declared.seats.SeatState.{SeatState}
use Rattle.lfm_protocol.specs.After.{drops_oldest, drops_oldest_at}
use Rattle.lfm_protocol.specs.Points.{kind, target}
use Rattle.lfm_laws.specs.table.Carried.{carries_value}
use Rattle.lfm_laws.specs.table.Words.{stepped_by, popped_if}
use Rattle.lfm_table.specs.declared.seat_view.View.{View}
use Rattle.lfm_table.specs.declared.rule.Moving.{Moving}
use Rattle.lfm_table.specs.Rule.{value_in, is_carried, Advanced}
use Rattle.lfm_table.specs.Seats.{Rooted}
use Rattle.lfm_table.specs.Steps.{gives_at, MayBeLeft, CanMake, dropped, kept_out, put_in, add_by, with_record, Took, oldest_in}
use Rattle.lfm_table.specs.FastPath.{Fit, MadeStep}
use Rattle.lfm_table.proofs.tables.SeatKept.{made, can_make, slot_there, own_slot}
use Rattle.lfm_table.proofs.tables.StepFacts.{keeps_value}

-- the kinds of steps that add no record to the pop list
abbrev pub adds_no_record : Kind → Bool
adds_no_record Kind.LinkLoad = false
adds_no_record _ = true

pub adds_none : (k : Kind) → k ≢ Kind.LinkLoad → adds_no_record k ≡ true
adds_none Kind.LinkLoad other = absurd (other refl)
adds_none _ other = refl

-- Of these kinds, those that neither give the value away nor take a record out of the pop list. The store of the owner and the
-- subtraction from the count are included, although they may do so.
abbrev pub is_plain : Kind → Bool
is_plain Kind.WakeStore = false
is_plain Kind.HandoffStore = false
is_plain _ = true

same_if : {T : Type 0} (b : Bool) (x : Moving T) → b ≡ false → ◌≡◌ {A = Option (Moving T)} (Some x) (Some (record x { popped = record x.popped { records = popped_if b x.popped.records } }))
same_if true x e = absurd (false≢true (sym e))
same_if false x e = refl

pub drops_same : {T : Type 0} (p : SeatState) (a : Option (Moving T)) → drops_oldest p ≡ false → a ≡ dropped p a
drops_same p None e = refl
drops_same p (Some x) e = same_if (drops_oldest p) x e

adds_by : (k : Kind) (t n : ℕ) (l : List Record) → adds_no_record k ≡ true → l ≡ add_by (Some k) t n l
adds_by Kind.LinkLoad t n l e = absurd (false≢true e)
adds_by _ t n l e = refl

pub adds_same : {T : Type 0} (p : SeatState) (s n : ℕ) (a : Option (Moving T)) (k : Kind) → kind p.point ≡ Some k → adds_no_record k ≡ true → a ≡ with_record p s n a
adds_same p s n None k is straight = refl
adds_same p s n (Some x) k is straight =
    ap (λ (l : List Record). Some (record x { popped = record x.popped { records = l } })) (adds_by k (target p.point s) n x.popped.records straight ∙ ap (λ (j : Option Kind). add_by j (target p.point s) n x.popped.records) (sym is))

-- which of them take out a record, and which give the value away
pub drops_by : (q : Point) (k : Kind) → kind q ≡ Some k → is_plain k ≡ true → k ≢ Kind.OwnerStore → drops_oldest_at q ≡ false
drops_by (GrantWakeStore carrier oldest) k is straight other = let e : Kind.WakeStore ≡ k = cc in absurd (false≢true (ap is_plain e ∙ straight))
drops_by (EnterOwnerStore entrant how) k is straight other = let e : Kind.OwnerStore ≡ k = cc in absurd (other (sym e))
drops_by _ k is straight other = refl

pub gives_by : (q : Point) (k : Kind) → kind q ≡ Some k → is_plain k ≡ true → k ≢ Kind.CountSubtract → gives_at q ≡ false
gives_by (ReleaseCountSubtract releaser) k is straight other = let e : Kind.CountSubtract ≡ k = cc in absurd (other (sym e))
gives_by (ReleaseHandoffStore releaser) k is straight other = let e : Kind.HandoffStore ≡ k = cc in absurd (false≢true (ap is_plain e ∙ straight))
gives_by (GrantWakeStore carrier oldest) k is straight other = let e : Kind.WakeStore ≡ k = cc in absurd (false≢true (ap is_plain e ∙ straight))
gives_by (SendWakeStore t) k is straight other = let e : Kind.WakeStore ≡ k = cc in absurd (false≢true (ap is_plain e ∙ straight))
gives_by _ k is straight other = refl

pub leaves_by : (q : Point) (k : Kind) (r : Releaser) → kind q ≡ Some k → k ≢ Kind.OwnerStore → q ≢ ReleaseOwnerStore r
leaves_by q k r is other at = let e : Some Kind.OwnerStore ≡ Some k = sym (ap kind at) ∙ is in let f : k ≡ Kind.OwnerStore = cc in other f

-- The slot, by whether the value is in hand before the step and whether the seat carries it afterwards

pub took_none : {T : Type 0} (b c : Bool) (a : Option (Moving T)) (m : Me (Option (Moving T)) (View T)) → b ≡ c → Took b c a m a m
took_none true c a m e = (refl, refl)
took_none false false a m e = (refl, refl)
took_none false true a m e = absurd (false≢true e)

took_one : {T : Type 0} (b c : Bool) (a a' : Option (Moving T)) (m m' : Me (Option (Moving T)) (View T)) → b ≡ false → c ≡ true → (m.1 ≡ (0, a') ∷ rest m.1) × (m' ≡ (m.0, (0, None) ∷ rest m.1)) → Took b c a m a' m'
took_one true c a a' m m' e f h = absurd (false≢true (sym e))
took_one false true a a' m m' e f h = h
took_one false false a a' m m' e f h = absurd (false≢true f)

module _ {T : Type 0} (follows : ℕ → T → T → Type 0) (suits : T → ℕ → Type 0) (number words id : ℕ) (l : Limits) (p : SeatState) (m : Me (Option (Moving T)) (View T)) (a : Option (Moving T)) (fit : Fit number words id l p m a)
    (k : Kind) (is : kind p.point ≡ Some k) (straight : adds_no_record k ≡ true) (keeps : drops_oldest p ≡ false) where
  abbrev Now : Type 0
  Now = Me (Option (Moving T)) (View T)

  -- what is in hand and in the slot when the step is made
  module _ (gives : Bool) (is_gives : gives_at p.point ≡ gives) (a1 : Option (Moving T)) (m0 : Now) (is_a : a1 ≡ kept_out gives a) (is_m : m0 ≡ (m.0, put_in gives a m.1)) where
    out : a1 ≡ kept_out (gives_at p.point) (dropped p a)
    out = is_a ∙ (λ i. kept_out (sym is_gives i) (drops_same p a keeps i))

    put : m0 ≡ (m.0, put_in (gives_at p.point) (dropped p a) m.1)
    put = is_m ∙ (λ i. (m.0, put_in (sym is_gives i) (drops_same p a keeps i) m.1))

    can_now : ((r : Releaser) → p.point ≡ ReleaseOwnerStore r → MayBeLeft follows suits a m.0) → CanMake follows suits p (value_in a1) number l.seats words m0
    can_now leaves = can_make follows suits number words id l p m a fit.seated fit.became fit.ready fit.rooted a1 m0 out put leaves

    module _ (n : ℕ) (m1 : Now) (did : Advanced follows suits p (value_in a1) m0 n m1) where
      slot_now : is_carried a1 ≡ false → carries_value (stepped_by p number n None).seat ≡ true → (x : Option (Moving T)) × (m1.1 ≡ (0, x) ∷ rest m1.1)
      slot_now none c = slot_there follows suits number words id l p m a fit.seated fit.became fit.ready fit.rooted n a1 a1 m0 m1 out put did (adds_same p number n a1 k is straight) none c

      module _ (words' id' : ℕ) (same_words : words' ≡ words) (same_id : id' ≡ id) where
        made_now : (a3 : Option (Moving T)) (m2 : Now) → Took (is_carried a1) (carries_value (stepped_by p number n None).seat) a1 m1 a3 m2 → MadeStep follows suits number words' id' l p n m a m2 a3
        made_now a3 m2 took =
            let q = stepped_by p number n (oldest_in a3) in
            let t = made follows suits number words id l p m a fit.seated fit.became fit.ready fit.rooted n a1 a1 a3 m0 m1 m2 q.seat q.turn out put did (adds_same p number n a1 k is straight) took refl refl in
            record {
              fit = record {
                seated = t.seated;
                became = t.became_now;
                ready = t.ready_now;
                rooted = subst (λ (z : ℕ × ℕ). Rooted z.0 z.1 number l m2.0) (λ i. (sym same_words i, sym same_id i)) t.rooted_now;
              };
              event = t.event;
            }

  -- A step that does not give the value away

  module _ (flat : gives_at p.point ≡ false) where
    pub can_keep : ((r : Releaser) → p.point ≡ ReleaseOwnerStore r → MayBeLeft follows suits a m.0) → CanMake follows suits p (value_in a) number l.seats words m
    can_keep leaves = can_now false flat a m refl refl leaves

    module _ (n : ℕ) (m1 : Now) (did : Advanced follows suits p (value_in a) m n m1) (words' id' : ℕ) (same_words : words' ≡ words) (same_id : id' ≡ id) where
      -- the seat carries the value after the step exactly if it did before
      pub stayed : carries_value (stepped_by p number n None).seat ≡ carries_value p → MadeStep follows suits number words' id' l p n m a m1 a
      stayed same =
          made_now false flat a m refl refl n m1 did words' id' same_words same_id a m1 (took_none (is_carried a) (carries_value (stepped_by p number n None).seat) a m1 (fit.seated.moved ∙ sym same))

      -- the seat has the value in hand and keeps it
      pub kept : carries_value p ≡ true → MadeStep follows suits number words' id' l p n m a m1 a
      kept before =
          made_now false flat a m refl refl n m1 did words' id' same_words same_id a m1
          (took_none (is_carried a) (carries_value (stepped_by p number n None).seat) a m1 ((fit.seated.moved ∙ before) ∙ sym (keeps_value p number n None flat before)))

      -- the seat has no value and gains none
      pub idled : carries_value p ≡ false → carries_value (stepped_by p number n None).seat ≡ false → MadeStep follows suits number words' id' l p n m a m1 a
      idled before after =
          made_now false flat a m refl refl n m1 did words' id' same_words same_id a m1
          (took_none (is_carried a) (carries_value (stepped_by p number n None).seat) a m1 ((fit.seated.moved ∙ before) ∙ sym after))

      -- the seat gains the value and takes it out of the slot
      pub gained : carries_value p ≡ false → carries_value (stepped_by p number n None).seat ≡ true → (a3 : Option (Moving T)) (m2 : Now) → (m1.1 ≡ (0, a3) ∷ rest m1.1) × (m2 ≡ (m1.0, (0, None) ∷ rest m1.1))
          → MadeStep follows suits number words' id' l p n m a m2 a3
      gained before after a3 m2 took =
          made_now false flat a m refl refl n m1 did words' id' same_words same_id a3 m2
          (took_one (is_carried a) (carries_value (stepped_by p number n None).seat) a a3 m1 m2 (fit.seated.moved ∙ before) after took)

    pub gained_slot : (n : ℕ) (m1 : Now) → Advanced follows suits p (value_in a) m n m1 → carries_value p ≡ false → carries_value (stepped_by p number n None).seat ≡ true → (x : Option (Moving T)) × (m1.1 ≡ (0, x) ∷ rest m1.1)
    gained_slot n m1 did before after = slot_now false flat a m refl refl n m1 did (fit.seated.moved ∙ before) after

  -- A step that may give the value away, which is in the slot

  module _ (gives : gives_at p.point ≡ true) (m0 : Now) (is_m : m0 ≡ (m.0, (0, a) ∷ rest m.1)) where
    pub own_place : (x : Option (Moving T)) × (m.1 ≡ (0, x) ∷ rest m.1)
    own_place = own_slot follows suits number words id l p m a fit.seated fit.became fit.ready fit.rooted gives

    pub can_give : ((r : Releaser) → p.point ≢ ReleaseOwnerStore r) → CanMake follows suits p None number l.seats words m0
    can_give other = can_now true gives None m0 refl is_m (λ r at. absurd (other r at))

    pub given_slot : (n : ℕ) (m1 : Now) → Advanced follows suits p None m0 n m1 → carries_value (stepped_by p number n None).seat ≡ true → (x : Option (Moving T)) × (m1.1 ≡ (0, x) ∷ rest m1.1)
    given_slot n m1 did after = slot_now true gives None m0 refl is_m n m1 did refl after

    module _ (n : ℕ) (m1 : Now) (did : Advanced follows suits p None m0 n m1) (words' id' : ℕ) (same_words : words' ≡ words) (same_id : id' ≡ id) where
      pub given : carries_value (stepped_by p number n None).seat ≡ false → MadeStep follows suits number words' id' l p n m a m1 None
      given after = made_now true gives None m0 refl is_m n m1 did words' id' same_words same_id None m1 (took_none false (carries_value (stepped_by p number n None).seat) None m1 (sym after))

      pub taken_back : carries_value (stepped_by p number n None).seat ≡ true → (a3 : Option (Moving T)) (m2 : Now) → (m1.1 ≡ (0, a3) ∷ rest m1.1) × (m2 ≡ (m1.0, (0, None) ∷ rest m1.1)) → MadeStep follows suits number words' id' l p n m a m2 a3
      taken_back after a3 m2 took =
          made_now true gives None m0 refl is_m n m1 did words' id' same_words same_id a3 m2
          (took_one false (carries_value (stepped_by p number n None).seat) None a3 m1 m2 refl after took)

-- that a step was made may also be stated with the number, the limits and the hand that the seat has after the step
pub told_after : {T : Type 0} {follows : ℕ → T → T → Type 0} {suits : T → ℕ → Type 0} {s t w i n : ℕ} {l k : Limits} {p : SeatState} {m m' : Me (Option (Moving T)) (View T)} {a b b' : Option (Moving T)}
    → (t ≡ s) × (k ≡ l) → b' ≡ b → MadeStep follows suits s w i l p n m a m' b → MadeStep follows suits t w i k p n m a m' b'
told_after {T} {follows} {suits} {s} {t} {w} {i} {n} {l} {k} {p} {m} {m'} {a} same hand did =
    subst (λ (z : ℕ × Limits × Option (Moving T)). MadeStep follows suits z.0 w i z.1 p n m a m' z.2) (λ j. (sym same.0 j, sym same.1 j, sym hand j)) did

-- and with those that it had before the step
pub told_before : {T : Type 0} {follows : ℕ → T → T → Type 0} {suits : T → ℕ → Type 0} {s t w i n : ℕ} {l k : Limits} {p : SeatState} {m m' : Me (Option (Moving T)) (View T)} {a b : Option (Moving T)}
    → (t ≡ s) × (k ≡ l) → MadeStep follows suits t w i k p n m a m' b → MadeStep follows suits s w i l p n m a m' b
told_before {T} {follows} {suits} {s} {t} {w} {i} {n} {l} {k} {p} {m} {m'} {a} {b} same did =
    subst (λ (z : ℕ × Limits). MadeStep follows suits z.0 w i z.1 p n m a m' b) (λ j. (same.0 j, same.1 j)) did

-- if two steps keep the number and the limits, both in sequence do
pub same_then : {s t u : ℕ} {l k j : Limits} → (t ≡ s) × (k ≡ l) → (u ≡ t) × (j ≡ k) → (u ≡ s) × (j ≡ l)
same_then first then = (then.0 ∙ first.0, then.1 ∙ first.1)
