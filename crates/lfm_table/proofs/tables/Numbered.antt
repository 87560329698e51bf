-- The numbers of the holds that the seats ended last, when one view is replaced.
use Rattle.std.proofs.Common.{◌≡◌, ◌≢◌, ℕ, zero, suc, ◌+◌, ◌<◌, ◌≤◌, List, [], ◌∷◌, length, set, sym, refl, ap, ◌∙◌, subst, ◌⊎◌, ⊎_elim, inl, inr, arith, Some}
use mathlib.Core.Option.{some, some-injective, some-ne-none}
use lib.ListN.{get_elem?}
use mathlib.Core.Logic.{dite}
use native.Mathlib.Decide.{ℕ_discrete}
use Rattle.atomic_table.proofs.Lists.{at_set, set_here, set_else}
use Rattle.lfm_table.specs.declared.seat_view.View.{View}
use Rattle.lfm_table.specs.Rule.{LeftIn, AreNumbered}

first_there : {A : Type 0} (l : List A) (i : ℕ) (a : A) → get_elem? l i ≡ some a → (x : A) × (get_elem? l 0 ≡ some x)
first_there [] i a e = absurd (some-ne-none a (sym e))
first_there (x ∷ xs) i a e = (x, refl)

-- a seat that ended the last hold of all left the value last; so did each seat if no hold has ended
pub left_own : {T : Type 0} (views : List (View T)) (n : ℕ) (y : T) → AreNumbered views n → LeftIn views n y → (i : ℕ) (v : View T) → get_elem? views i ≡ some v → v.ended ≡ n → v.last ≡ Some y
left_own views zero y all left i v at is =
    let k = first_there views i v at in
    all.opens k.0 i v k.1 at is ∙ (sym (all.opens k.0 left.0 left.1 k.1 left.2 left.5) ∙ left.3)
left_own {T} views (suc n) y all left i v at is =
    let same : i ≡ left.0 = all.differ i left.0 v left.1 at left.2 (omega (arith, is)) (is ∙ sym left.5) in
    let one : v ≡ left.1 = some-injective v left.1 (sym at ∙ subst (λ (j : ℕ). get_elem? views j ≡ some left.1) (sym same) left.2) in
    ap (λ (u : View T). u.last) one ∙ left.3

module _ {T : Type 0} (views : List (View T)) (id : ℕ) (v w : View T) (at : get_elem? views id ≡ some v) (here : id < length views) (opening : w.opening ≡ v.opening) where
  -- the view of the same seat before, if the data of its last hold did not change
  noted_at : w.last ≡ v.last → w.ended ≡ v.ended → (j : ℕ) (z : View T) → get_elem? (set views id w) j ≡ some z → (u : View T) × (get_elem? views j ≡ some u) × (u.ended ≡ z.ended) × (u.last ≡ z.last)
  noted_at same_last same_ended j z e = ⊎_elim
      (λ (t : (j ≡ id) × (w ≡ z)). (v, subst (λ (i : ℕ). get_elem? views i ≡ some v) (sym t.0) at, sym same_ended ∙ ap (λ (u : View T). u.ended) t.1, sym same_last ∙ ap (λ (u : View T). u.last) t.1))
      (λ (t : (j ≢ id) × (get_elem? views j ≡ some z)). (z, t.1, refl, refl)) (at_set views id j w z e)

  opening_at : (k : View T) → get_elem? (set views id w) 0 ≡ some k → (u : View T) × (get_elem? views 0 ≡ some u) × (u.opening ≡ k.opening)
  opening_at k e = ⊎_elim
      (λ (t : (0 ≡ id) × (w ≡ k)). (v, subst (λ (i : ℕ). get_elem? views i ≡ some v) (sym t.0) at, sym opening ∙ ap (λ (u : View T). u.opening) t.1))
      (λ (t : (0 ≢ id) × (get_elem? views 0 ≡ some k)). (k, t.1, refl)) (at_set views id 0 w k e)

  -- if the step ends no hold, the holds are numbered as before
  pub numbered_same : (n : ℕ) → w.last ≡ v.last → w.ended ≡ v.ended → AreNumbered views n → AreNumbered (set views id w) n
  numbered_same n same_last same_ended old = record {
    within = λ j z e. let a = noted_at same_last same_ended j z e in subst (λ (m : ℕ). m ≤ n) a.2 (old.within j a.0 a.1);
    greatest = λ some_ended. let a = old.greatest some_ended in dite (ℕ_discrete a.0 id)
        (λ q. let one : v ≡ a.1 = some-injective v a.1 (sym at ∙ subst (λ (i : ℕ). get_elem? views i ≡ some a.1) q a.2) in (id, w, set_here views id w here, same_ended ∙ (ap (λ (u : View T). u.ended) one ∙ a.3)))
        (λ other. (a.0, a.1, set_else views id a.0 w other ∙ a.2, a.3));
    differ = λ i j y z e f some same.
        let a = noted_at same_last same_ended i y e in
        let b = noted_at same_last same_ended j z f in
        old.differ i j a.0 b.0 a.1 b.1 (subst (λ (m : ℕ). 0 < m) (sym a.2) some) (a.2 ∙ (same ∙ sym b.2));
    opens = λ k j z e f none.
        let a = opening_at k e in
        let b = noted_at same_last same_ended j z f in
        sym b.3 ∙ (old.opens a.0 j b.0 a.1 b.1 (b.2 ∙ none) ∙ a.2);
  }

  -- if the step ends hold n + 1, the holds are numbered up to n + 1
  module _ (n : ℕ) (next : w.ended ≡ n + 1) (old : AreNumbered views n) where
    ended_at : (j : ℕ) (z : View T) → get_elem? (set views id w) j ≡ some z → ((j ≡ id) × (z.ended ≡ n + 1)) ⊎ ((get_elem? views j ≡ some z) × (z.ended ≤ n))
    ended_at j z e = ⊎_elim
        (λ (t : (j ≡ id) × (w ≡ z)). inl (t.0, ap (λ (u : View T). u.ended) (sym t.1) ∙ next))
        (λ (t : (j ≢ id) × (get_elem? views j ≡ some z)). inr (t.1, old.within j z t.1)) (at_set views id j w z e)

    pub numbered_next : AreNumbered (set views id w) (n + 1)
    numbered_next = record {
      within = λ j z e. elim (ended_at j z e) [ inl t ↦ (let q = t.1 in omega (arith, q)) | inr t ↦ (let q = t.1 in omega (arith, q)) ];
      greatest = λ some_ended. (id, w, set_here views id w here, next);
      differ = λ i j y z e f some same. elim (ended_at i y e) [
        | inl a ↦ elim (ended_at j z f) [ inl b ↦ a.0 ∙ sym b.0 | inr b ↦ absurd (let p = a.1 in let q = b.1 in omega (arith, p, q, same)) ]
        | inr a ↦ elim (ended_at j z f) [ inl b ↦ absurd (let p = a.1 in let q = b.1 in omega (arith, p, q, same)) | inr b ↦ old.differ i j y z a.0 b.0 some same ]
      ];
      opens = λ k j z e f none. let a = opening_at k e in elim (ended_at j z f) [
        | inl b ↦ absurd (let q = b.1 in omega (arith, q, none))
        | inr b ↦ old.opens a.0 j z a.1 b.0 none ∙ a.2
      ];
    }
