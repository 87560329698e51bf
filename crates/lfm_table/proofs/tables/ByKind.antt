-- What the table requires of an access that is the operation of one kind of step.
use Rattle.std.proofs.Common.{◌≡◌, ℕ, sym, ap, ◌∙◌, subst, Option, Some}
use Rattle.std.specs.Prelude.{Bool}
use Rattle.atomic_table.specs.Table.{Me, Allows}
use Rattle.lfm_protocol.specs.declared.kinds.Kind.{Kind}
use Rattle.lfm_protocol.specs.declared.seats.SeatState.{SeatState}
use Rattle.lfm_protocol.specs.Points.{kind, target}
use Rattle.lfm_laws.specs.table.Words.{index_by, written_by}
use Rattle.lfm_table.specs.declared.operations.Access.{Access}
use Rattle.lfm_table.specs.declared.seat_view.View.{View}
use Rattle.lfm_table.specs.declared.rule.Moving.{Moving}
use Rattle.lfm_table.specs.Accesses.{word_at, becomes, is_store}
use Rattle.lfm_table.specs.Rule.{Held, Advanced}
use Rattle.lfm_table.specs.Actions.{told_of}
use Rattle.lfm_table.specs.Steps.{stores, CanMake}
use Rattle.lfm_table.proofs.tables.RuleKept.{allowed}

module _ {T : Type 0} (follows : ℕ → T → T → Type 0) (suits : T → ℕ → Type 0) (slots id : ℕ) (me : Me (Option (Moving T)) (View T)) (picked p : SeatState) (picked_hand hand : Option T) (number seats words : ℕ)
    (same : picked ≡ p) (same_hand : picked_hand ≡ hand) (can : CanMake follows suits p hand number seats words me) where
  pub by_kind : (k : Kind) → kind p.point ≡ Some k → (a : Access) → word_at a ≡ index_by seats (target p.point number) (Some k) → ((n : ℕ) → becomes a n ≡ written_by p number n (Some k)) → is_store a ≡ stores (Some k)
      → Allows (Held follows suits) slots id me (word_at a) (becomes a) (λ n m'. Advanced follows suits picked picked_hand me (told_of (is_store a) (becomes a n) n) m')
  by_kind k is a word writes finds =
      subst (λ (t : SeatState × Option T). Allows (Held follows suits) slots id me (word_at a) (becomes a) (λ n m'. Advanced follows suits t.0 t.1 me (told_of (is_store a) (becomes a n) n) m')) (λ j. (sym same j, sym same_hand j))
      (allowed follows suits slots id me p hand (word_at a) (becomes a) (λ n. told_of (is_store a) (becomes a n) n) can.user can.became
      (word ∙ (λ j. index_by (sym can.seats_are j) (target p.point (sym can.named j)) (sym is j)))
      (λ n. writes n ∙ (λ j. written_by p (sym can.named j) n (sym is j)))
      (λ n. ap (λ (b : Bool). told_of b (becomes a n) n) finds ∙ (λ j. told_of (stores (sym is j)) ((writes n ∙ (λ i. written_by p (sym can.named i) n (sym is i))) j) n))
      can.hand)
