-- Facts of the list of those that wait.
use Rattle.std.proofs.Common.{◌≡◌, ℕ, zero, suc, ◌+◌, ◌<◌, ◌≤◌, ⊎_elim, List, [], ◌∷◌, ◌++◌, length, take, drop, sym, ◌∙◌, ap, subst, arith, get_or}
use mathlib.Core.Option.{some, some-injective, some-ne-none}
use mathlib.Core.Logic.{dite}
use native.Mathlib.Decide.{ℕ_discrete}
use lib.ListN.{get_elem?}
use Rattle.atomic_table.proofs.Lists.{at_snoc}
use Rattle.lfm_plain_condvar.specs.declared.waiters.Waiter.{Waiter}
use Rattle.lfm_plain_condvar.specs.Lists.{InOrder}

-- one more, with the next ticket
pub in_order_more : (n k : ℕ) (ws : List Waiter) (w : Waiter) → InOrder n k ws → w.ticket ≡ n + 1 → InOrder (n + 1) k (ws ++ w ∷ [])
in_order_more n k [] w h e = (omega arith, omega arith)
in_order_more n k (x ∷ ws) w h e = (h.0, in_order_more n x.ticket ws w h.1 e)

-- from a lower bound
pub in_order_below : (n j k : ℕ) (ws : List Waiter) → j ≤ k → InOrder n k ws → InOrder n j ws
in_order_below n j k [] h o = omega arith
in_order_below n j k (w ∷ ws) h o = let a = o.0 in (omega arith, o.1)

-- without one of them
pub in_order_without : (n k : ℕ) (ws : List Waiter) (i : ℕ) → InOrder n k ws → InOrder n k (take i ws ++ drop (suc i) ws)
in_order_without n k [] zero o = o
in_order_without n k [] (suc i) o = o
in_order_without n k (w ∷ ws) zero o = let a = o.0 in in_order_below n k w.ticket ws (omega arith) o.1
in_order_without n k (w ∷ ws) (suc i) o = (o.0, in_order_without n w.ticket ws i o.1)

module _ {A : Type 0} (P : A → Type 0) where
  -- what holds of each holds of the others when one is removed
  pub all_without : (xs : List A) (i : ℕ) → ((j : ℕ) (x : A) → get_elem? xs j ≡ some x → P x) → (j : ℕ) (x : A) → get_elem? (take i xs ++ drop (suc i) xs) j ≡ some x → P x
  all_without [] zero all j x e = all j x e
  all_without [] (suc i) all j x e = all j x e
  all_without (y ∷ xs) zero all j x e = all (suc j) x e
  all_without (y ∷ xs) (suc i) all zero x e = all zero x e
  all_without (y ∷ xs) (suc i) all (suc j) x e = all_without xs i (λ k z q. all (suc k) z q) j x e

  -- what holds of each and of one more holds of all
  pub all_more : (xs : List A) (y : A) → ((j : ℕ) (x : A) → get_elem? xs j ≡ some x → P x) → P y → (j : ℕ) (x : A) → get_elem? (xs ++ y ∷ []) j ≡ some x → P x
  all_more xs y all p j x e = ⊎_elim (λ u. all j x u) (λ u. subst P u p) (at_snoc xs y x j e)

  pub all_rest : (xs ys : List A) (y : A) → xs ≡ y ∷ ys → ((j : ℕ) (x : A) → get_elem? xs j ≡ some x → P x) → (j : ℕ) (x : A) → get_elem? ys j ≡ some x → P x
  all_rest xs ys y is all j x e = all (suc j) x (ap (λ z. get_elem? z (suc j)) is ∙ e)

  pub first_of : (xs ys : List A) (y : A) → xs ≡ y ∷ ys → ((j : ℕ) (x : A) → get_elem? xs j ≡ some x → P x) → P y
  first_of xs ys y is all = all 0 y (ap (λ z. get_elem? z 0) is)

pub found_at : {A : Type 0} (xs : List A) (i : ℕ) (x : A) → i < length xs → x ≡ get_or xs i x → get_elem? xs i ≡ some x
found_at [] i x h e = absurd (omega arith)
found_at (y ∷ xs) zero x h e = ap some (sym e)
found_at (y ∷ xs) (suc i) x h e = found_at xs i x (omega arith) e

pub within : {A : Type 0} (xs : List A) (i : ℕ) (x : A) → get_elem? xs i ≡ some x → i < length xs
within [] i x e = absurd (some-ne-none x (sym e))
within (y ∷ xs) zero x e = omega arith
within (y ∷ xs) (suc i) x e = let h = within xs i x e in omega arith

-- none of the first i has P, nor has the next
pub none_more : {A : Type 0} (P : A → Type 0) (xs : List A) (i : ℕ) (y : A) → get_elem? xs i ≡ some y → (P y → ⊥) → ((j : ℕ) (x : A) → j < i → get_elem? xs j ≡ some x → P x → ⊥)
    → (j : ℕ) (x : A) → j < i + 1 → get_elem? xs j ≡ some x → P x → ⊥
none_more {A} P xs i y at not before j x h e p = dite (ℕ_discrete j i)
    (λ q. not (subst P (some-injective x y (sym e ∙ ap (λ k. get_elem? xs k) q ∙ at)) p))
    (λ ne. before j x (omega arith) e p)
