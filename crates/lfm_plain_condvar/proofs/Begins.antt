-- What is true of plain seats when they are made.
use Rattle.std.proofs.Common.{◌≡◌, ℕ, zero, suc, ◌+◌, ◌<◌, List, [], ◌∷◌, ◌++◌, ◌⊎◌, ⊎_elim, inl, inr, Some, is_some, refl, sym, ◌∙◌, ap, subst, arith, length}
use mathlib.Core.Option.{some, some-ne-none, some-injective}
use lib.ListN.{get_elem?}
use Rattle.atomic_table.specs.Seated.{TableId}
use Rattle.lfm_mutex.specs.calls.Sight.{Sight, new_sight}
use Rattle.lfm_plain_condvar.specs.declared.waiters.Waiters.{Waiters}
use Rattle.lfm_plain_condvar.specs.Holds.{SeatKept, IsOf}
use Rattle.lfm_plain_condvar.proofs.OneHold.{one_some}

at_end : {A : Type 0} (xs : List A) (x y : A) (j : ℕ) → get_elem? (xs ++ x ∷ []) j ≡ some y → (get_elem? xs j ≡ some y) ⊎ ((j ≡ length xs) × (x ≡ y))
at_end [] x y zero e = inr (refl, some-injective x y e)
at_end [] x y (suc j) e = absurd (some-ne-none y (sym e))
at_end (z ∷ xs) x y zero e = inl e
at_end (z ∷ xs) x y (suc j) e = ⊎_elim (λ u. inl u) (λ u. inr (ap suc u.0, u.1)) (at_end xs x y j e)

-- a property of each item of a list and of one appended item holds of all items
pub and_last : {A : Type 0} (P : ℕ → A → Type 0) (xs ys : List A) (x : A) → ys ≡ xs ++ x ∷ [] → P (length xs) x → ((j : ℕ) (y : A) → get_elem? xs j ≡ some y → P j y) → (j : ℕ) (y : A) → get_elem? ys j ≡ some y → P j y
and_last {A} P xs ys x is p old j y e = ⊎_elim (λ u. old j y u) (λ u. subst (λ (t : ℕ × A). P t.0 t.1) (λ i. (sym u.0 i, u.1 i)) p) (at_end xs x y j (ap (λ z. get_elem? z j) (sym is) ∙ e))

pub kept_new : (z : TableId) (n : ℕ) (s : Sight Waiters) (v : Waiters) (k j : ℕ) → s ≡ new_sight v k (j + 1) → IsOf z n v → j < n → SeatKept z n s
kept_new z n s v k j e of h = let last : s.last ≡ Some v = ap (λ (y : Sight Waiters). y.last) e in let named : s.number ≡ j + 1 = ap (λ (y : Sight Waiters). y.number) e in record {
  out = ap (λ (y : Sight Waiters). y.depth) e;
  awake = ap (λ (y : Sight Waiters). y.asleep) e;
  low = omega arith;
  high = omega arith;
  there = ap is_some last;
  made = λ l is. subst (IsOf z n) (one_some s.last v l last is) of;
}
