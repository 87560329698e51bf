-- The two steps of a call that serves a queued seat and that change the pop list: the load of a link, and the store of a grant.
use Rattle.std.proofs.Common.{◌≡◌, ◌≢◌, ℕ, ◌∷◌, sym, refl, ap, ◌∙◌, subst, Option, Some, None}
use Rattle.std.specs.Prelude.{true, false}
use Rattle.atomic_table.specs.Table.{Me, rest}
use Rattle.lfm_protocol.specs.declared.kinds.Kind.{Kind}
use Rattle.lfm_protocol.specs.declared.limits.Limits.{Limits}
use Rattle.lfm_protocol.specs.declared.points.Point.TheVariants.{ReleaseOwnerStore}
use Rattle.lfm_protocol.specs.declared.points.Releaser.{Releaser}
use Rattle.lfm_protocol.specs.declared.seats.SeatState.{SeatState}
use Rattle.lfm_protocol.specs.Points.{kind}
use Rattle.lfm_laws.specs.table.Carried.{carries_value}
use Rattle.lfm_laws.specs.table.Words.{stepped_by}
use Rattle.lfm_table.specs.declared.seat_view.View.{View}
use Rattle.lfm_table.specs.declared.rule.Moving.{Moving}
use Rattle.lfm_table.specs.Rule.{value_in, is_carried, Advanced}
use Rattle.lfm_table.specs.Seats.{Rooted}
use Rattle.lfm_table.specs.Steps.{gives_at, CanMake, dropped, kept_out, put_in, with_record, oldest_in}
use Rattle.lfm_table.specs.FastPath.{Fit, MadeStep}
use Rattle.lfm_table.proofs.tables.SeatKept.{made, can_make, own_slot}
use Rattle.lfm_table.proofs.tables.StepFacts.{keeps_value}
use Rattle.lfm_table.proofs.tables.FastPathSteps.{drops_same, drops_by, gives_by, leaves_by, took_none}

carried_with : {T : Type 0} (p : SeatState) (s n : ℕ) (a : Option (Moving T)) → is_carried (with_record p s n a) ≡ is_carried a
carried_with p s n None = refl
carried_with p s n (Some x) = refl

module _ {T : Type 0} (follows : ℕ → T → T → Type 0) (suits : T → ℕ → Type 0) (number words id : ℕ) (l : Limits) (p : SeatState) (m : Me (Option (Moving T)) (View T)) (a : Option (Moving T)) (fit : Fit number words id l p m a) where
  abbrev Mine : Type 0
  Mine = Me (Option (Moving T)) (View T)

  -- the whole step, from what is in hand and in the slot before and after it
  done : (n : ℕ) (a1 a2 : Option (Moving T)) (m0 m1 : Mine) → a1 ≡ kept_out (gives_at p.point) (dropped p a) → m0 ≡ (m.0, put_in (gives_at p.point) (dropped p a) m.1) → Advanced follows suits p (value_in a1) m0 n m1
      → a2 ≡ with_record p number n a1 → is_carried a2 ≡ carries_value (stepped_by p number n None).seat → (words' id' : ℕ) → words' ≡ words → id' ≡ id → MadeStep follows suits number words' id' l p n m a m1 a2
  done n a1 a2 m0 m1 out put did is_a2 same words' id' same_words same_id =
      let q = stepped_by p number n (oldest_in a2) in
      let t = made follows suits number words id l p m a fit.seated fit.became fit.ready fit.rooted n a1 a2 a2 m0 m1 m1 q.seat q.turn out put did is_a2
      (took_none (is_carried a2) (carries_value (stepped_by p number n None).seat) a2 m1 same) refl refl in
      record {
        fit = record {
          seated = t.seated;
          became = t.became_now;
          ready = t.ready_now;
          rooted = subst (λ (z : ℕ × ℕ). Rooted z.0 z.1 number l m1.0) (λ i. (sym same_words i, sym same_id i)) t.rooted_now;
        };
        event = t.event;
      }

  -- The load of a link

  module _ (is : kind p.point ≡ Some Kind.LinkLoad) where
    flat : gives_at p.point ≡ false
    flat = gives_by p.point Kind.LinkLoad is refl (λ e. cc)

    out : a ≡ kept_out (gives_at p.point) (dropped p a)
    out = drops_same p a (drops_by p.point Kind.LinkLoad is refl (λ e. cc)) ∙ (λ i. kept_out (sym flat i) (dropped p a))

    put : m ≡ (m.0, put_in (gives_at p.point) (dropped p a) m.1)
    put = λ i. (m.0, put_in (sym flat i) (dropped p a) m.1)

    pub can_load : CanMake follows suits p (value_in a) number l.seats words m
    can_load = can_make follows suits number words id l p m a fit.seated fit.became fit.ready fit.rooted a m out put (λ r at. absurd (leaves_by p.point Kind.LinkLoad r is (λ e. cc) at))

    pub loaded : (n : ℕ) (m1 : Mine) → Advanced follows suits p (value_in a) m n m1 → (a2 : Option (Moving T)) → a2 ≡ with_record p number n a → carries_value p ≡ true
        → (words' id' : ℕ) → words' ≡ words → id' ≡ id → MadeStep follows suits number words' id' l p n m a m1 a2
    loaded n m1 did a2 is_a2 before words' id' same_words same_id =
        done n a a2 m m1 out put did is_a2
        ((ap is_carried is_a2 ∙ carried_with p number n a ∙ fit.seated.moved ∙ before) ∙ sym (keeps_value p number n None flat before))
        words' id' same_words same_id

  -- The store of a grant

  module _ (gives : gives_at p.point ≡ true) where
    pub granting_place : (x : Option (Moving T)) × (m.1 ≡ (0, x) ∷ rest m.1)
    granting_place = own_slot follows suits number words id l p m a fit.seated fit.became fit.ready fit.rooted gives

    module _ (m0 : Mine) (is_m : m0 ≡ (m.0, (0, dropped p a) ∷ rest m.1)) where
      none_left : None ≡ kept_out (gives_at p.point) (dropped p a)
      none_left = λ i. kept_out (sym gives i) (dropped p a)

      all_put : m0 ≡ (m.0, put_in (gives_at p.point) (dropped p a) m.1)
      all_put = is_m ∙ (λ i. (m.0, put_in (sym gives i) (dropped p a) m.1))

      pub can_grant : ((r : Releaser) → p.point ≢ ReleaseOwnerStore r) → CanMake follows suits p None number l.seats words m0
      can_grant other = can_make follows suits number words id l p m a fit.seated fit.became fit.ready fit.rooted None m0 none_left all_put (λ r at. absurd (other r at))

      pub granted : (n : ℕ) (m1 : Mine) → Advanced follows suits p None m0 n m1 → carries_value (stepped_by p number n None).seat ≡ false
          → (words' id' : ℕ) → words' ≡ words → id' ≡ id → MadeStep follows suits number words' id' l p n m a m1 None
      granted n m1 did after words' id' same_words same_id = done n None None m0 m1 none_left all_put did refl (sym after) words' id' same_words same_id
