-- What holds of cond seats when they are made.
use Rattle.std.proofs.Common.{◌≡◌, ℕ, zero, suc, ◌+◌, ◌<◌, List, [], ◌∷◌, Some, is_some, refl, sym, ◌∙◌, ap, subst, arith, ◌++◌, ◌⊎◌, ⊎_elim, inl, inr, length, get_or}
use Rattle.std.proofs.lemmas.List.Sums.{get_or-le-sum_by}
use mathlib.Core.Option.{some, some-ne-none, some-injective}
use lib.ListN.{get_elem?}
use Rattle.lfm_protocol.specs.declared.limits.Limits.{Limits}
use Rattle.lfm_mutex.specs.calls.Sight.{Sight, new_sight}
use Rattle.lfm_condvar.specs.declared.waiters.Waiters.{Waiters}
use Rattle.lfm_condvar.specs.Holds.{CondKept, CountsKnown, MadeFor}
use Rattle.lfm_condvar.specs.Keeping.{IsNew}
use Rattle.lfm_condvar.proofs.OneHold.{one_some}

pub at_place : {A : Type 0} (xs : List A) (i : ℕ) (x : A) → i < length xs → x ≡ get_or xs i x → get_elem? xs i ≡ some x
at_place [] i x h e = absurd (omega arith)
at_place (y ∷ xs) zero x h e = ap some (sym e)
at_place (y ∷ xs) (suc i) x h e = at_place xs i x (omega arith) e

at_end : {A : Type 0} (xs : List A) (x y : A) (j : ℕ) → get_elem? (xs ++ x ∷ []) j ≡ some y → (get_elem? xs j ≡ some y) ⊎ ((j ≡ length xs) × (x ≡ y))
at_end [] x y zero e = inr (refl, some-injective x y e)
at_end [] x y (suc j) e = absurd (some-ne-none y (sym e))
at_end (z ∷ xs) x y zero e = inl e
at_end (z ∷ xs) x y (suc j) e = ⊎_elim (λ u. inl u) (λ u. inr (ap suc u.0, u.1)) (at_end xs x y j e)

-- A property of each item of a list and of one appended item holds of all items. By cases on the index
pub and_last : {A : Type 0} (P : ℕ → A → Type 0) (xs ys : List A) (x : A) → ys ≡ xs ++ x ∷ [] → P (length xs) x → ((j : ℕ) (y : A) → get_elem? xs j ≡ some y → P j y) → (j : ℕ) (y : A) → get_elem? ys j ≡ some y → P j y
and_last {A} P xs ys x is p old j y e = ⊎_elim (λ u. old j y u) (λ u. subst (λ (t : ℕ × A). P t.0 t.1) (λ i. (sym u.0 i, u.1 i)) p) (at_end xs x y j (ap (λ z. get_elem? z j) (sym is) ∙ e))

known_new : (s : Sight Waiters) (v : Waiters) (n j : ℕ) → s ≡ new_sight v n (j + 1) → IsNew v → j < v.seats → CountsKnown s v
known_new s v n j e new h = let named : s.number ≡ j + 1 = ap (λ (z : Sight Waiters). z.number) e in let c = v.counted in let o = v.counts.ok in let p = get_or-le-sum_by (λ (x : ℕ). x) v.counts.items s.number 0 (omega arith) in record {
  low = omega arith;
  high = omega arith;
  few = (let z = new.2 in omega arith);
}

pub kept_new : (s : Sight Waiters) (v : Waiters) (n j : ℕ) → s ≡ new_sight v n (j + 1) → IsNew v → j < v.seats → CondKept s
kept_new s v n j e new h = let last : s.last ≡ Some v = ap (λ (z : Sight Waiters). z.last) e in record {
  out = ap (λ (z : Sight Waiters). z.depth) e;
  awake = ap (λ (z : Sight Waiters). z.asleep) e;
  there = ap is_some last;
  known = λ l is. subst (CountsKnown s) (one_some s.last v l last is) (known_new s v n j e new h);
}

pub made_new : (limits : Limits) (s : Sight Waiters) (v : Waiters) (n j : ℕ) → s ≡ new_sight v n (j + 1) → v.seats ≡ limits.seats → v.budget ≡ limits.budget → MadeFor limits s
made_new limits s v n j e a b l is = let last : s.last ≡ Some v = ap (λ (z : Sight Waiters). z.last) e in
    subst (λ (y : Waiters). (y.seats ≡ limits.seats) × (y.budget ≡ limits.budget)) (one_some s.last v l last is) (a, b)

pub within : {A : Type 0} (xs : List A) (i : ℕ) (x : A) → get_elem? xs i ≡ some x → i < length xs
within [] i x e = absurd (some-ne-none x (sym e))
within (y ∷ xs) zero x e = omega arith
within (y ∷ xs) (suc i) x e = let h = within xs i x e in omega arith
