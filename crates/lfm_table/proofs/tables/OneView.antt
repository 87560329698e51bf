-- What stays true of the views of a table's seats if one of them is replaced by a view with the same facts, or if the view of a
-- new seat is added at the end.
use Rattle.std.specs.Prelude.{true, false, ⊤}
use Rattle.std.proofs.Common.{◌≡◌, ◌≢◌, ℕ, zero, suc, ◌+◌, ◌<◌, ◌≤◌, List, [], ◌∷◌, ◌++◌, length, set, sym, refl, ap, ◌∙◌, subst, ◌⊎◌, ⊎_elim, inl, inr, arith, Option, None, length-set, length-append}
use Rattle.std.proofs.lemmas.Bool.{false≢true}
use mathlib.Core.Option.{some, some-injective, some-ne-none, none}
use mathlib.Core.Option as maybe
use lib.ListN.{get_elem?}
use mathlib.Core.Logic.{dite}
use native.Mathlib.Decide.{ℕ_discrete}
use Rattle.lfm_table.specs.Table.{State}
use Rattle.lfm_table.proofs.Lists.{at_set, set_here, set_else}
use Rattle.lfm_protocol.specs.declared.limits.Limits.{Limits}
use Rattle.lfm_protocol.specs.declared.seats.SeatState.{SeatState}
use Rattle.lfm_laws.specs.table.Carried.{carries_value}
use Rattle.lfm_protocol.specs.Core.{Core, limits}
use Rattle.lfm_laws.specs.steady.Ghost.{Ghost}
use Rattle.lfm_protocol.specs.Seats.{seat, absent}
use Rattle.lfm_table.specs.declared.seat_view.Role.{Role}
use Rattle.lfm_table.specs.declared.seat_view.Role.TheVariants.{User, Retired}
use Rattle.lfm_table.specs.declared.seat_view.View.{View}
use Rattle.lfm_table.specs.declared.rule.Moving.{Moving}
use Rattle.lfm_table.specs.Reach.{Reached}
use Rattle.lfm_table.specs.Rule.{sum_over, LeadsToValue, Awaits, NoneEnded, LeftIn, AreNumbered, Sits, AtHome, WithSeat, HeldWithin}
use Rattle.lfm_table.proofs.tables.Numbered.{numbered_same}
use Rattle.lfm_table.proofs.tables.RuleKept.{length_at}

pub at_end : {A : Type 0} (l : List A) (a b : A) (j : ℕ) → get_elem? (l ++ a ∷ []) j ≡ some b → (get_elem? l j ≡ some b) ⊎ ((j ≡ length l) × (a ≡ b))
at_end [] a b zero e = inr (refl, some-injective a b e)
at_end [] a b (suc j) e = absurd (some-ne-none b (sym e))
at_end (x ∷ xs) a b zero e = inl e
at_end (x ∷ xs) a b (suc j) e = ⊎_elim inl (λ t. let q = t.0 in inr (omega arith, t.1)) (at_end xs a b j e)

pub total_end : {A : Type 0} (f : A → ℕ) (l : List A) (a : A) → sum_over f (l ++ a ∷ []) ≡ sum_over f l + f a
total_end f [] a = omega arith
total_end f (x ∷ xs) a = let h = total_end f xs a in omega arith

pub get_end : {A : Type 0} (l : List A) (a : A) (j : ℕ) → j < length l → get_elem? (l ++ a ∷ []) j ≡ get_elem? l j
get_end [] a j h = absurd (omega arith)
get_end (x ∷ xs) a zero h = refl
get_end (x ∷ xs) a (suc j) h = get_end xs a j (omega arith)

pub not_both : (r : Role) → r ≡ User → r ≡ Retired → ⊥
not_both r u e = cc

module _ {T : Type 0} (follows : ℕ → T → T → Type 0) (suits : T → ℕ → Type 0) (c : Core) (g : Ghost) (count : ℕ) (homes : List (maybe.Option (Option (Moving T)))) where
  -- the parts of the rule that depend on what each seat does next and left last
  pub record Parts (views : List (View T)) : Type 0 where
    pub few : length views ≤ length c.seats
    pub each : (j : ℕ) (v : View T) → get_elem? views j ≡ some v → Sits c j v
    pub later : (j : ℕ) → length views ≤ j → seat c.seats (j + 1) ≡ absent
    pub home : ((t : ℕ) → carries_value (seat c.seats t) ≡ false) → AtHome follows suits c g count homes views
    pub outside : (j : ℕ) (v : View T) → get_elem? views j ≡ some v → carries_value v.state ≡ true → WithSeat follows suits c g count views j v
    pub numbered : AreNumbered views count

  -- one view is replaced by another with the same facts
  module _ (views : List (View T)) (p : Parts views) (i : ℕ) (x y : View T) (at : get_elem? views i ≡ some x) (number : y.number ≡ x.number) (limits_are : y.limits ≡ x.limits) (stands : y.state ≡ x.state) (lasts : y.last ≡ x.last) (founds : y.found ≡ x.found)
      (lists : y.popped ≡ x.popped) (holds : y.answered ≡ x.answered) (opens : y.opening ≡ x.opening) (ended : y.last_found ≡ x.last_found) (numbers : y.ended ≡ x.ended) (counts : y.holds_ended ≡ x.holds_ended) where
    sized : (z : View T) → y ≡ z → x.limits.seats ≡ z.limits.seats
    sized z e = ap (λ (l : Limits). l.seats) (sym limits_are) ∙ ap (λ (v : View T). v.limits.seats) e

    leads_same : (which : ℕ → Type 0) (t : T) → LeadsToValue follows which views t → LeadsToValue follows which (set views i y) t
    leads_same which t old j z l e ok is = ⊎_elim
        (λ (u : (j ≡ i) × (y ≡ z)). subst (λ (n : ℕ). Reached follows n (j + 1) l t) (sized z u.1) (old j x l (subst (λ (k : ℕ). get_elem? views k ≡ some x) (sym u.0) at) ok (sym lasts ∙ ap (λ (v : View T). v.last) u.1 ∙ is)))
        (λ (u : (j ≢ i) × (get_elem? views j ≡ some z)). old j z l u.1 ok is) (at_set views i j y z e)

    awaits_same : (t : T) → Awaits follows views t → Awaits follows (set views i y) t
    awaits_same t old j k l far e is = let far' : length views ≤ j = subst (λ (n : ℕ). n ≤ j) (length-set views i y) far in ⊎_elim
        (λ (u : (0 ≡ i) × (y ≡ k)). subst (λ (n : ℕ). Reached follows n (j + 1) l t) (sized k u.1) (old j x l far' (subst (λ (k : ℕ). get_elem? views k ≡ some x) (sym u.0) at) (sym opens ∙ ap (λ (v : View T). v.opening) u.1 ∙ is)))
        (λ (u : (0 ≢ i) × (get_elem? views 0 ≡ some k)). old j k l far' u.1 is) (at_set views i 0 y k e)

    none_same : NoneEnded views → NoneEnded (set views i y)
    none_same all j z e = ⊎_elim
        (λ (u : (j ≡ i) × (y ≡ z)). ap (λ (v : View T). v.last_found) (sym u.1) ∙ (ended ∙ all i x at))
        (λ (u : (j ≢ i) × (get_elem? views j ≡ some z)). all j z u.1) (at_set views i j y z e)

    left_same : (t : T) → LeftIn views count t → LeftIn (set views i y) count t
    left_same t old = dite (ℕ_discrete old.0 i)
        (λ q. let one : x ≡ old.1 = some-injective x old.1 (sym at ∙ subst (λ (k : ℕ). get_elem? views k ≡ some old.1) q old.2) in (
          i,
          y,
          set_here views i y (length_at views i x at),
          lasts ∙ (ap (λ (v : View T). v.last) one ∙ old.3),
          λ none. none_same (old.4 (sym (ap (λ (v : View T). v.last_found) one) ∙ (sym ended ∙ none))),
          numbers ∙ (ap (λ (v : View T). v.ended) one ∙ old.5),
        ))
        (λ n. (old.0, old.1, set_else views i old.0 y n ∙ old.2, old.3, (λ none. none_same (old.4 none)), old.5))

    pub quiet : Parts (set views i y)
    quiet = record {
      few = let l = length-set views i y in omega (arith, l, p.few);
      each = λ j z e. ⊎_elim
          (λ (u : (j ≡ i) × (y ≡ z)). let old = p.each i x at in subst (λ (t : ℕ × View T). Sits c t.0 t.1) (λ k. (sym u.0 k, u.1 k)) (record { number = number ∙ old.number; limits_are = limits_are ∙ old.limits_are; state = old.state ∙ sym stands }))
          (λ (u : (j ≢ i) × (get_elem? views j ≡ some z)). p.each j z u.1) (at_set views i j y z e);
      later = λ j far. let l = length-set views i y in p.later j (omega (arith, far, l));
      home = λ nobody. let h = p.home nobody in record { value = h.value; here = h.here; records = h.records; room = h.room; leads = leads_same (λ _. ⊤) h.value.value h.leads; awaits = awaits_same h.value.value h.awaits; left = left_same h.value.value h.left; fits = h.fits };
      outside = λ j z e one. ⊎_elim
          (λ (u : (j ≡ i) × (y ≡ z)). let o = p.outside i x at (ap carries_value (sym stands) ∙ (ap (λ (v : View T). carries_value v.state) u.1 ∙ one)) in subst (λ (t : ℕ × View T). WithSeat follows suits c g count (set views i y) t.0 t.1) (λ k. (sym u.0 k, u.1 k)) (record {
            value = o.value;
            found = founds ∙ o.found;
            popped = lists ∙ o.popped;
            answered = holds ∙ o.answered;
            holds = counts ∙ o.holds;
            leads = leads_same (λ j. j ≢ i) o.value o.leads;
            awaits = awaits_same o.value o.awaits;
            shallow = λ flat. let k = o.shallow (ap (λ (s : SeatState). s.depth) (sym stands) ∙ flat) in (subst (λ (n : ℕ). suits o.value n) (sym holds) k.0, λ l is. subst (λ (n : ℕ). Reached follows n (i + 1) l o.value) (sized y refl) (k.1 l (sym lasts ∙ is)));
            left = λ flat. left_same o.value (o.left (ap (λ (s : SeatState). s.depth) (sym stands) ∙ flat));
          }))
          (λ (u : (j ≢ i) × (get_elem? views j ≡ some z)). let o = p.outside j z u.1 one in record {
            value = o.value;
            found = o.found;
            popped = o.popped;
            answered = o.answered;
            holds = o.holds;
            leads = leads_same (λ k. k ≢ j) o.value o.leads;
            awaits = awaits_same o.value o.awaits;
            shallow = o.shallow;
            left = λ flat. left_same o.value (o.left flat);
          }) (at_set views i j y z e);
      numbered = numbered_same views i x y at (length_at views i x at) opens count lasts numbers p.numbered;
    }

  -- one more view, of a seat that has made no step
  module _ (views : List (View T)) (p : Parts views) (k r : View T) (at : get_elem? views 0 ≡ some k) (room : length views < length c.seats) (number : r.number ≡ length views + 1) (limits_are : r.limits ≡ limits c) (new : r.state ≡ absent) (lasts : r.last ≡ k.opening) (unheld : r.last_found ≡ None) (unended : r.ended ≡ 0) where
    leads_end : (which : ℕ → Type 0) (t : T) → LeadsToValue follows which views t → Awaits follows views t → LeadsToValue follows which (views ++ r ∷ []) t
    leads_end which t old still j z l e ok is = ⊎_elim (λ u. old j z l u ok is)
        (λ (u : (j ≡ length views) × (r ≡ z)). let far : length views ≤ j = (let q = u.0 in omega arith) in subst (λ (n : ℕ). Reached follows n (j + 1) l t) (ap (λ (x : Limits). x.seats) ((p.each 0 k at).limits_are ∙ sym limits_are) ∙ ap (λ (v : View T). v.limits.seats) u.1) (still j k l far at (sym lasts ∙ (ap (λ (v : View T). v.last) u.1 ∙ is)))) (at_end views r z j e)

    awaits_end : (t : T) → Awaits follows views t → Awaits follows (views ++ r ∷ []) t
    awaits_end t old j z l far e is = let here = length_at views 0 k at in let q = length-append views (r ∷ []) in old j z l (omega arith) (sym (get_end views r 0 here) ∙ e) is

    left_end : (t : T) → LeftIn views count t → LeftIn (views ++ r ∷ []) count t
    left_end t old = (
      old.0,
      old.1,
      get_end views r old.0 (length_at views old.0 old.1 old.2) ∙ old.2,
      old.3,
      (λ none j z e. ⊎_elim (λ u. old.4 none j z u) (λ (u : (j ≡ length views) × (r ≡ z)). ap (λ (v : View T). v.last_found) (sym u.1) ∙ unheld) (at_end views r z j e)),
      old.5,
    )

    -- the new seat has ended no hold
    none_ended : (j : ℕ) (z : View T) → get_elem? (views ++ r ∷ []) j ≡ some z → 0 < z.ended → get_elem? views j ≡ some z
    none_ended j z e ended = ⊎_elim (λ u. u) (λ (u : (j ≡ length views) × (r ≡ z)). absurd (let q = ap (λ (v : View T). v.ended) u.1 in omega (arith, q, unended, ended))) (at_end views r z j e)

    numbered_end : AreNumbered views count → AreNumbered (views ++ r ∷ []) count
    numbered_end old = record {
      within = λ j z e. ⊎_elim (λ u. old.within j z u) (λ (u : (j ≡ length views) × (r ≡ z)). let q = ap (λ (v : View T). v.ended) u.1 in omega (arith, q, unended)) (at_end views r z j e);
      greatest = λ some_ended. let a = old.greatest some_ended in (a.0, a.1, get_end views r a.0 (length_at views a.0 a.1 a.2) ∙ a.2, a.3);
      differ = λ i j a b e f some same. old.differ i j a b (none_ended i a e some) (none_ended j b f (subst (λ (m : ℕ). 0 < m) same some)) some same;
      opens = λ first j z e f none.
          let first_is = sym (get_end views r 0 (length_at views 0 k at)) ∙ e in ⊎_elim
          (λ u. old.opens first j z first_is u none)
          (λ (u : (j ≡ length views) × (r ≡ z)). ap (λ (v : View T). v.last) (sym u.1) ∙ (lasts ∙ ap (λ (v : View T). v.opening) (some-injective k first (sym at ∙ first_is)))) (at_end views r z j f);
    }

    none_carried : (z : View T) → r ≡ z → carries_value z.state ≡ true → ⊥
    none_carried z same one = false≢true (sym (ap carries_value new) ∙ (ap (λ (v : View T). carries_value v.state) same ∙ one))

    pub extends : Parts (views ++ r ∷ [])
    extends = record {
      few = let q = length-append views (r ∷ []) in omega (arith, q, room);
      each = λ j z e. ⊎_elim (λ u. p.each j z u)
          (λ (u : (j ≡ length views) × (r ≡ z)). subst (λ (t : ℕ × View T). Sits c t.0 t.1) (λ i. (sym u.0 i, u.1 i)) (record { number = number; limits_are = limits_are; state = p.later (length views) (omega arith) ∙ sym new })) (at_end views r z j e);
      later = λ j far. let q = length-append views (r ∷ []) in p.later j (omega (arith, far, q));
      home = λ nobody. let h = p.home nobody in record { value = h.value; here = h.here; records = h.records; room = h.room; leads = leads_end (λ _. ⊤) h.value.value h.leads h.awaits; awaits = awaits_end h.value.value h.awaits; left = left_end h.value.value h.left; fits = h.fits };
      outside = λ j z e one. ⊎_elim
          (λ u. let o = p.outside j z u one in record { value = o.value; found = o.found; popped = o.popped; answered = o.answered; holds = o.holds; leads = leads_end (λ k. k ≢ j) o.value o.leads o.awaits; awaits = awaits_end o.value o.awaits; shallow = o.shallow; left = λ flat. left_end o.value (o.left flat) })
          (λ (u : (j ≡ length views) × (r ≡ z)). absurd (none_carried z u.1 one)) (at_end views r z j e);
      numbered = numbered_end p.numbered;
    }

module _ {Allowed : Limits → Type 0} {T : Type 0} (follows : ℕ → T → T → Type 0) (suits : T → ℕ → Type 0) where
  -- the parts of a table of which the rule holds
  pub parts : (s : State (Option (Moving T)) (View T)) (h : HeldWithin follows suits Allowed s) → Parts follows suits h.core h.ghost_state h.holds_ended s.homes s.views
  parts s h = record { few = h.few; each = h.each; later = h.later; home = h.home; outside = h.outside; numbered = h.numbered }
